-- What is known of a set while choices are looked at from the last on: that it is refuted, and of which choices it
-- still holds sides.
use Rattle.std.specs.Prelude.{ℕ, take}
use Rattle.prop_numbers.specs.Sets.{Members, IsPart, union}
use Rattle.prop_premises.specs.ChoiceLists.{hypotheticals_of}
use Rattle.prop_cells.specs.Problems.{Problem}
use Rattle.prop_amb.specs.Refuted.{IsRefuted, IsGrounded, IsCovered}
use Rattle.prop_amb.specs.Search.{Stand, users_of, choices_in}

-- the set is refuted, for reasons that are grounded and listed
pub record IsShown (problem : Problem) (s : Stand) (n : Members) : Type 0 where
  pub refuted : IsRefuted problem (choices_in s) n
  pub grounded : IsGrounded problem (choices_in s) n
  pub covered : IsCovered (choices_in s) s.listed n

-- the set holds believed premises of the user's and sides that the list takes of the first j choices alone
abbrev pub IsWithin : Stand → ℕ → Members → Type 0
IsWithin s j n = IsPart n (union (users_of s) (hypotheticals_of (take j (choices_in s)) (take j s.list)))
