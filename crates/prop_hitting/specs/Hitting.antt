-- Sets that have something of each of some sets.
use Rattle.std.specs.Prelude.{◌≡◌, ℕ, List, All, Contains, IsTrue, false}
use Rattle.std.specs.List.{list_any}
use Rattle.prop_numbers.specs.Sets.{Members, set_of, is_within, without}
use Rattle.prop_hitting.specs.declared.conflict.Conflict.{Conflict}

-- the set has something of each conflict
abbrev pub HitsAll : Members → List Conflict → Type 0
HitsAll h conflicts = All (λ c. IsTrue (list_any h c.premises)) conflicts

-- the set has all of one of these
abbrev pub HasAllOfOne : Members → List (List ℕ) → Type 0
HasAllOfOne h others = (r : List ℕ) × Contains others r × IsTrue (is_within h r)

-- without any one of its premises the set has nothing of some conflict
abbrev pub IsLean : List Conflict → List ℕ → Type 0
IsLean conflicts s = (p : ℕ) → IsTrue (set_of s p) → (c : Conflict) × Contains conflicts c
    × (list_any (without (set_of s) p) c.premises ≡ false)
