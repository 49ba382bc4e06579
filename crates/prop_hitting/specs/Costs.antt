-- What it costs to give up premises.
use Rattle.std.specs.Prelude.{◌<◌, ℕ, List, get_or, sum_by}
use Rattle.std.specs.List.Sorted.{IsStrictlyIncreasing}
use Rattle.prop_numbers.specs.Sets.{set_of}
use Rattle.prop_hitting.specs.Hitting.{HasAllOfOne, HitsAll}
use Rattle.prop_hitting.specs.declared.conflict.Conflict.{Conflict}

-- what a premise costs: what stands at its number, or else 1
abbrev pub weight : List ℕ → ℕ → ℕ
weight weights p = get_or weights p 1

-- what premises cost together
abbrev pub cost : List ℕ → List ℕ → ℕ
cost weights out = sum_by (weight weights) out

-- premises that hit all conflicts, and cost less than this, have all of a repair
abbrev pub AreDear : List Conflict → List (List ℕ) → List ℕ → ℕ → Type 0
AreDear conflicts repairs weights least = (out : List ℕ) → IsStrictlyIncreasing out
    → HitsAll (set_of out) conflicts → cost weights out < least → HasAllOfOne (set_of out) repairs
