-- On which premises a nogood rests.
use Rattle.std.specs.Prelude.{◌||◌, ◌⊎◌, ℕ, List, Bool, true, false, IsTrue}
use Rattle.std.proofs.Common.{inl, inr, refl, subst}
use Rattle.prop_numbers.specs.Sets.{IsPart, IsSame, Members, set_of, union}

or_cases : (a b : Bool) → IsTrue (a || b) → IsTrue a ⊎ IsTrue b
or_cases true b h = inl refl
or_cases false b h = inr h

-- the premises of both lie in the set
pub both_within : (s : Members) (new old came : List ℕ) → IsSame (set_of new) (union (set_of old) (set_of came))
    → IsPart (set_of old) s → IsPart (set_of came) s → IsPart (set_of new) s
both_within s new old came e a b p h =
    let P : Bool → Type 0 = IsTrue in elim (or_cases (set_of old p) (set_of came p) (subst P (e p) h)) [
      | inl k ↦ a p k
      | inr k ↦ b p k
    ]
