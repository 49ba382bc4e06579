-- Groups of nogoods that end with the same premise.
use Rattle.std.specs.Prelude.{◌≡◌, ◌<◌, ◌≤◌, ◌+◌, ℕ, List, insert, length, Option, Some}
use Rattle.std.specs.Prelude.{None, IfSome, IsTrue, All, AllPairs}
use Rattle.std.specs.List.{flat_map}
use Rattle.prop_numbers.specs.Sets.{set_of, is_within, is_below}
use Rattle.prop_nogoods.specs.Stores.{staying, lacking}

-- nogoods, the last premise of each of them, premises that each of them has, how many one has at
-- most, and how many there is memory for
pub record Group : Type 0 where
  pub last : Option ℕ
  pub common : List ℕ
  pub largest : ℕ
  pub sets : List (List ℕ)
  pub capacity : ℕ

-- one above the last premise, 0 where there is none
abbrev pub end_of : Option ℕ → ℕ
end_of None = 0
end_of (Some p) = p + 1

-- the set has the last premise of a group, and none after it
abbrev pub EndsSo : Option ℕ → List ℕ → Type 0
EndsSo last n = IfSome last (λ p. IsTrue (set_of n p)) × IsTrue (is_below (end_of last) n)

-- each set has all of these premises
abbrev pub HaveAll : List ℕ → List (List ℕ) → Type 0
HaveAll common sets = All (λ line. IsTrue (is_within (set_of line) common)) sets

-- no set has more premises than so many
abbrev pub AreNoLarger : ℕ → List (List ℕ) → Type 0
AreNoLarger largest sets = All (λ line. length line ≤ largest) sets

-- there is memory for this nogood, which has what all have, and is no larger than any may be
pub record HasRoomFor (n : List ℕ) (g : Group) : Type 0 where
  pub room : length g.sets < g.capacity
  pub has : IsTrue (is_within (set_of n) g.common)
  pub no_larger : length n ≤ g.largest

-- one nogood more is listed, and the others are as before
pub record HasOneMore (old new : List (List ℕ)) (n : List ℕ) : Type 0 where
  pub place : ℕ
  pub inside : place ≤ length old
  pub is : new ≡ insert old place n

-- the nogoods of all groups
abbrev pub sets_of : List Group → List (List ℕ)
sets_of groups = flat_map (λ g. g.sets) groups

-- the group once a set joins: the nogoods that it is part of are gone
abbrev pub left_of : List ℕ → Group → Group
left_of n g = record g { sets = staying g.sets n }

-- the group without the nogoods that hold a premise
abbrev pub lacking_of : ℕ → Group → Group
lacking_of p g = record g { sets = lacking g.sets p }

-- the nogoods of a group end with its last premise
abbrev pub EndTogether : Group → Type 0
EndTogether g = All (EndsSo g.last) g.sets

-- the nogoods of each group end together, and its last premise is that of the groups behind it or
-- comes before it
pub record AreInOrder (groups : List Group) : Type 0 where
  pub together : All EndTogether groups
  pub rise : AllPairs (λ g h. end_of g.last ≤ end_of h.last) groups
