-- What a store of nogoods keeps, and what that says of a trail. Each nogood is in a slot, and is
-- named by the slot's number.
use Rattle.std.specs.Prelude.{◌≡◌, ◌≢◌, ℕ, List, Option, Some, Contains, slice_get}
use Rattle.prop_facts.specs.declared.fact.Literal.{Literal}
use Rattle.prop_refuting.specs.Nogoods.{Nogood}
use Rattle.prop_trail.specs.Trails.{Trailed}
use Rattle.prop_trail.specs.Sayings.{Says}
use Rattle.prop_learned.specs.declared.store.Look.{Look}
use Rattle.prop_learned.specs.declared.store.Look.TheVariants.{Denies}

-- the slots hold the nogood
abbrev pub IsKeptIn : List (Option Nogood) → Nogood → Type 0
IsKeptIn slots g = Contains slots (Some g)

-- the slot with this number holds the nogood
abbrev pub IsKeptAt : List (Option Nogood) → ℕ → Nogood → Type 0
IsKeptAt slots number g = slice_get slots number ≡ Some (Some g)

-- The literal stands at one place among the literals, and those at all other places are so by the
-- trail.
pub record LeavesOne (t : Trailed) (literals : List Literal) (literal : Literal) : Type 0 where
  pub at : ℕ
  pub of : slice_get literals at ≡ Some literal
  pub rest : (k : ℕ) (x : Literal) → k ≢ at → slice_get literals k ≡ Some x → Says t x

-- the nogood with this number denies the literal: all of its others are so, so this one isn't
pub record IsDenied (t : Trailed) (slots : List (Option Nogood)) (literal : Literal) (number : ℕ)
    : Type 0 where
  pub nogood : Nogood
  pub kept : IsKeptAt slots number nogood
  pub leaves : LeavesOne t nogood.literals literal

-- what comes of a look at a nogood is so: where it denies a literal, the nogood with that number
-- does
abbrev pub IsSeen : Trailed → List (Option Nogood) → Look → Type 0
IsSeen t slots (Denies literal number) = IsDenied t slots literal number
IsSeen t slots look = Unit {0}
