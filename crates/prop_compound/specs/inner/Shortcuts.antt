-- Shortcuts: what is known beforehand of a use of a definition, as shorter steps that add the same.
use Rattle.std.specs.Prelude.{ℕ, List, [], ◌∷◌, slice_get}
use Rattle.std.specs.Option.{option_map_or}
use Rattle.prop_compound.specs.declared.definition.KeptDefinition.{KeptDefinition}
use Rattle.prop_compound.specs.declared.definition.Passing.{Passing}
use Rattle.prop_compound.specs.declared.definition.Used.{Used}
use Rattle.prop_compound.specs.declared.definition.Used.TheVariants as uses
use Rattle.prop_compound.specs.declared.definition.NumberedStep.{NumberedStep}
use Rattle.prop_compound.specs.declared.definition.NumberedStep.TheVariants.{Use}
use Rattle.prop_compound.specs.Expansion.{cells_at}
use Rattle.prop_compound.specs.Shortcuts.{passed}

-- Shorter steps for a use of something that has this plan. If the plan has no step, there is none.
-- If it has a single use, it is that use, on the cells that this chooses among the places. Else it
-- is the use itself.
abbrev pub through : List NumberedStep → Used → List ℕ → Passing → List NumberedStep
through [] used places passing = []
through (Use inner chosen own ∷ []) used places passing =
    Use inner (cells_at places chosen) (passed passing own) ∷ []
through plan used places passing = Use used places passing ∷ []

abbrev pub plan_of : List KeptDefinition → ℕ → List NumberedStep
plan_of definitions n = option_map_or (λ k. k.plan.items) (slice_get definitions n) []

-- shorter steps for a step
abbrev pub shortened : List KeptDefinition → NumberedStep → List NumberedStep
shortened definitions (Use (uses.Definition n) places passing) =
    through (plan_of definitions n) (uses.Definition n) places passing
shortened definitions step = step ∷ []
