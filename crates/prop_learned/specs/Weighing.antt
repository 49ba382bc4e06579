-- How places are weighed: a place weighs more each time that it is counted, and what counts later
-- counts more.
use Rattle.std.specs.Prelude.{ℕ, ◌+◌, ◌-◌, ◌/◌, ◌^◌, ◌≤◌, List, All, map, length, min, nat_lt}
use Rattle.std.specs.Prelude.{if◌then◌else◌, slice_index_or, slice_set}

-- a weight for each place, and the bump: what a place weighs more when it is counted
pub record Weighed : Type 0 where
  pub each : List ℕ
  pub bump : ℕ

-- each weight is 1 or more
abbrev pub AreWeights : List ℕ → Type 0
AreWeights each = All (λ weight. 1 ≤ weight) each

-- what the place weighs: 1 where there is no such place
abbrev pub weight_of : Weighed → ℕ → ℕ
weight_of w place = slice_index_or w.each place 1

-- a smaller weight; of two weights the larger one stays so, or they become the same
abbrev pub lowered : ℕ → ℕ
lowered weight = weight / 2 ^ 30 + 1

-- all weights and the bump are lowered
abbrev pub all_lowered : Weighed → Weighed
all_lowered w = record { each = map lowered w.each; bump = lowered w.bump }

-- the weight with more, at most the largest number of 64 bits
abbrev pub raised : ℕ → ℕ → ℕ
raised weight more = min (weight + more) (2 ^ 64 - 1)

-- the place weighs more by the bump
abbrev pub raised_at : Weighed → ℕ → Weighed
raised_at w place =
    record w { each = slice_set w.each place (raised (weight_of w place) w.bump) }

-- the place weighs more; where it would weigh too much, all weights and the bump are lowered
abbrev pub added_at : Weighed → ℕ → Weighed
added_at w place =
    if nat_lt (2 ^ 50) (raised (weight_of w place) w.bump) then all_lowered (raised_at w place)
    else raised_at w place

-- the same where there is such a place; else nothing changes
abbrev pub added : Weighed → ℕ → Weighed
added w place = if nat_lt place (length w.each) then added_at w place else w
