-- Lists of nogoods, none of which is part of another or smaller than one before it.
use Rattle.std.specs.Prelude.{◌≡◌, ℕ, Bool, false, not, nat_lt, IsTrue, List, [], ◌∷◌, ◌++◌, length}
use Rattle.std.specs.Prelude.{filter, All, AllPairs, Contains, ◌⊎◌}
use Rattle.std.specs.List.{list_any}
use Rattle.std.specs.List.Sorted.{IsNonDecreasingBy}
use Rattle.prop_numbers.specs.Sets.{Members, set_of, is_within, is_below}

-- some listed set is part of this one
abbrev pub has_part : List (List ℕ) → Members → Bool
has_part listed n = list_any (λ line. is_within n line) listed

-- each listed set that is part of this one has numbers below p alone
abbrev pub PartsEndBelow : List (List ℕ) → Members → ℕ → Type 0
PartsEndBelow listed n p = All (λ line. IsTrue (is_within n line) → IsTrue (is_below p line)) listed

-- each listed set that is part of this one and has numbers below p alone is the set of none
abbrev pub NoneEndsBelow : List (List ℕ) → Members → ℕ → Type 0
NoneEndsBelow listed n p = All
    (λ line. IsTrue (is_within n line) → IsTrue (is_below p line) → line ≡ []) listed

-- no listed set is part of another
abbrev pub AreMinimal : List (List ℕ) → Type 0
AreMinimal listed = AllPairs (λ a b. (is_within (set_of b) a ≡ false)
    × (is_within (set_of a) b ≡ false)) listed

-- no listed set is smaller than one before it
abbrev pub AreBySize : List (List ℕ) → Type 0
AreBySize listed = IsNonDecreasingBy length listed

-- the listed sets that this one is not part of: they stay when it joins
abbrev pub staying : List (List ℕ) → List ℕ → List (List ℕ)
staying listed n = filter (λ line. not (is_within (set_of line) n)) listed

-- the listed sets that don't hold this premise
abbrev pub lacking : List (List ℕ) → ℕ → List (List ℕ)
lacking listed p = filter (λ line. not (set_of line p)) listed

-- the listed sets that are no larger than this one
abbrev pub no_larger : List (List ℕ) → List ℕ → List (List ℕ)
no_larger listed n = filter (λ line. not (nat_lt (length n) (length line))) listed

-- the listed sets that are larger than this one
abbrev pub larger : List (List ℕ) → List ℕ → List (List ℕ)
larger listed n = filter (λ line. nat_lt (length n) (length line)) listed

-- the sets listed once this one joins: it stands behind those that are no larger
abbrev pub with_set : List (List ℕ) → List ℕ → List (List ℕ)
with_set listed n = no_larger (staying listed n) n ++ n ∷ larger (staying listed n) n

-- a set was added: it has a listed part, each set that had one keeps one, and nothing else is
-- listed
pub record AddsSet (old new : List (List ℕ)) (n : List ℕ) : Type 0 where
  pub has : IsTrue (has_part new (set_of n))
  pub kept : (m : Members) → IsTrue (has_part old m) → IsTrue (has_part new m)
  pub only : (line : List ℕ) → Contains new line → Contains old line ⊎ (line ≡ n)
