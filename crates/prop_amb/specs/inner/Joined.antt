-- The reasons against all sides of a choice, joined without its sides.
use Rattle.std.specs.Prelude.{◌≡◌, ℕ, suc, ◌||◌, IsTrue, List, [], ◌∷◌, false}
use Rattle.prop_numbers.specs.Sets.{Members, set_of, without}
use Rattle.prop_premises.specs.declared.choice.Choice.{Choice}
use Rattle.prop_premises.specs.ChoiceLists.{IsSide}
use Rattle.prop_premises.specs.inner.ChoiceLists.{is_side_of}

-- the set has what the reasons against all sides of the choice have, without these sides, and
-- nothing else
pub record IsJoined (choice : Choice) (reasons : ℕ → Members) (n : Members) : Type 0 where
  pub has : (side p : ℕ) → IsSide choice side → IsTrue (reasons side p)
      → is_side_of choice p ≡ false → IsTrue (n p)
  pub sources : (p : ℕ) → IsTrue (n p)
      → (side : ℕ) × IsSide choice side × IsTrue (reasons side p) × (is_side_of choice p ≡ false)

-- What these reasons have, each beside its own premise. The own premise of the first reason is
-- `own`, and those of the others have the numbers that follow.
abbrev pub others_of : ℕ → List (List ℕ) → Members
others_of own [] p = false
others_of own (reason ∷ reasons) p = without (set_of reason) own p || others_of (suc own) reasons p
