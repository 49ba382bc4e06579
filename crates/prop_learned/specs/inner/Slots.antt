-- What the slots of a store hold, and what comes of a look at one.
use Rattle.std.specs.Prelude.{List, Option, map}
use Rattle.prop_facts.specs.declared.fact.Literal.{Literal}
use Rattle.prop_refuting.specs.Nogoods.{Nogood}
use Rattle.prop_learned.specs.declared.slot.Slot.{Slot}
use Rattle.prop_learned.specs.declared.slot.Turn.{Turn}
use Rattle.prop_learned.specs.declared.slot.Turn.TheVariants.{Denies}

-- the nogood of each slot, where it has one
abbrev pub held_in : List Slot → List (Option Nogood)
held_in slots = map (λ slot. slot.nogood) slots

-- where a literal is denied, P holds of it
abbrev pub IfDenies : (Literal → Type 0) → Turn → Type 0
IfDenies P (Denies literal) = P literal
IfDenies P turn = Unit {0}
