-- What is kept beside each definition, and what is true of the definitions that are kept.
use Rattle.std.specs.Prelude.{◌≡◌, ◌<◌, ℕ, ◌+◌, List, All, length, map, slice_get, ⊤}
use Rattle.std.specs.Option.{option_map_or}
use Rattle.prop_procedures.specs.Stored.{Stored}
use Rattle.prop_compound.specs.declared.definition.KeptDefinition.{KeptDefinition}
use Rattle.prop_compound.specs.declared.definition.Used.{Used}
use Rattle.prop_compound.specs.declared.definition.Used.TheVariants as uses
use Rattle.prop_compound.specs.declared.definition.NumberedStep.{NumberedStep}
use Rattle.prop_compound.specs.declared.definition.NumberedStep.TheVariants.{Use}
use Rattle.prop_compound.specs.Definitions.{Definition, Definitions}

-- the definition without what is kept beside it
abbrev pub bare : KeptDefinition → Definition
bare k = record { params = k.params; steps = k.steps.items }

abbrev pub all_bare : List KeptDefinition → List Definition
all_bare definitions = map bare definitions

-- ---- what is kept

-- the use is of a procedure on one cell at least, or of a definition that is there on as many cells
-- as that wants
abbrev pub IsUseThere : List Definition → Used → ℕ → Type 0
IsUseThere definitions (uses.Procedure n) count = 0 < count
IsUseThere definitions (uses.Definition n) count =
    (n < length definitions) × (option_map_or (λ d. d.params) (slice_get definitions n) 0 ≡ count)

-- ---- over a library

-- the step uses no procedure, or one of the library on as many cells as it wants
abbrev pub IsUseOver : List Stored → NumberedStep → Type 0
IsUseOver library (Use (uses.Procedure n) cells passing) = (n < length library)
    × (option_map_or (λ p. length p.ins + 1) (slice_get library n) 0 ≡ length cells)
IsUseOver library step = ⊤

-- the definitions were made over the library: they use its procedures, each on as many cells as it
-- wants
pub record IsDefinedOver (library : List Stored) (definitions : Definitions) : Type 0 where
  pub uses : All (λ d. All (IsUseOver library) d.steps) definitions.definitions
