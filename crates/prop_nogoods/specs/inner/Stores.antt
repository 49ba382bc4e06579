-- Lists of nogoods, none of which is part of another or smaller than one before it.
use Rattle.std.specs.Prelude.{◌≡◌, ℕ, List, false, All, Contains}
use Rattle.prop_numbers.specs.Sets.{set_of, is_within}

-- both list the same sets
pub record HaveSame (a b : List (List ℕ)) : Type 0 where
  pub first : (line : List ℕ) → Contains a line → Contains b line
  pub second : (line : List ℕ) → Contains b line → Contains a line

-- the set is part of none of those listed
abbrev pub IsPartOfNone : List (List ℕ) → List ℕ → Type 0
IsPartOfNone listed n = All (λ line. is_within (set_of line) n ≡ false) listed
