-- What steps expand to among definitions in order.
use Rattle.std.specs.Prelude.{ℕ, List, reverse}
use Rattle.prop_compound.specs.declared.definition.Passing.{Passing}
use Rattle.prop_compound.specs.declared.definition.NumberedStep.{NumberedStep}
use Rattle.prop_compound.specs.Definitions.{Definition}
use Rattle.prop_compound.specs.Expansion.{Expansion, definition_expanded, steps_expanded}

-- ---- cells and instances

-- what steps add, where these are the definitions, in order
abbrev pub steps_in : {G : Type 0} → (G → Passing → G) → List Definition → G → List ℕ
    → List NumberedStep → Expansion G → Expansion G
steps_in pass definitions = steps_expanded pass (definition_expanded pass (reverse definitions))
