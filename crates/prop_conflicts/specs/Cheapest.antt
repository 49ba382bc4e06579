-- The cheapest repairs: what costs least to give up so that the other premises can hold.
use Rattle.std.specs.Prelude.{◌≡◌, ◌<◌, ℕ, List, Contains, IsTrue, false}
use Rattle.std.specs.List.Sorted.{IsStrictlyIncreasing}
use Rattle.prop_numbers.specs.Sets.{Members, IsPart, set_of}
use Rattle.prop_premises.specs.Origins.{believed_in}
use Rattle.prop_hitting.specs.Costs.{cost}
use Rattle.prop_conflicts.specs.Conflicts.{Fits, Ground, IsRepair, less}

-- These are repairs. Whatever can be given up so that the others fit, and costs less than one of
-- these, has all of one of them.
pub record AreCheapestIn (g : Ground) (weights : List ℕ) (found : List (List ℕ)) : Type 0 where
  pub repairs : (r : List ℕ) → Contains found r → IsRepair g r
  pub cheapest : (out : List ℕ) → IsStrictlyIncreasing out
      → Fits g (less (believed_in g.premises) (set_of out)) → (r : List ℕ) → Contains found r
      → cost weights out < cost weights r
      → (q : List ℕ) × Contains found q × IsPart (set_of q) (set_of out)

-- any premises that fit leave out all of one of these sets
abbrev pub HaveOne : Ground → List (List ℕ) → Type 0
HaveOne g found = (kept : Members) → Fits g kept
    → (r : List ℕ) × Contains found r × ((p : ℕ) → IsTrue (set_of r p) → kept p ≡ false)
