-- Sets of numbers, as tests of which are in them.
use Rattle.std.specs.Prelude.{◌≡◌, ℕ, Bool, true, ◌==◌, ◌||◌, ◌&&◌, not, nat_lt, ◌<◌, IsTrue, List}
use Rattle.std.specs.Prelude.{[], ◌∷◌}
use Rattle.std.specs.List.{list_any, list_all}

abbrev pub Members : Type 0
Members = ℕ → Bool

-- the set of these numbers
abbrev pub set_of : List ℕ → Members
set_of ps p = list_any (λ q. q == p) ps

-- what is in one or the other
abbrev pub union : Members → Members → Members
union s t p = s p || t p

-- the set, but for one number
abbrev pub without : Members → ℕ → Members
without s q p = s p && not (q == p)

-- each number of the first is in the second
abbrev pub IsPart : Members → Members → Type 0
IsPart s t = (p : ℕ) → IsTrue (s p) → IsTrue (t p)

-- the same numbers are in both
abbrev pub IsSame : Members → Members → Type 0
IsSame s t = (p : ℕ) → s p ≡ t p

-- each number of the set is below n
abbrev pub IsBelow : ℕ → Members → Type 0
IsBelow n s = (p : ℕ) → IsTrue (s p) → p < n

-- whether each of these numbers is in the set
abbrev pub is_within : Members → List ℕ → Bool
is_within s ps = list_all s ps

-- whether the two lists have the same numbers
abbrev pub is_alike : List ℕ → List ℕ → Bool
is_alike ps qs = is_within (set_of qs) ps && is_within (set_of ps) qs

-- whether there is no number in the list, or no other than one in the set
abbrev pub is_at_most_one_of : Members → List ℕ → Bool
is_at_most_one_of s [] = true
is_at_most_one_of s (p ∷ ps) = s p && is_within (set_of (p ∷ [])) ps

-- whether each of these numbers is below n
abbrev pub is_below : ℕ → List ℕ → Bool
is_below n ps = list_all (λ p. nat_lt p n) ps
