use Rattle.std.proofs.Common.{◌≡◌, ◌+◌, min, sum_by, take}
use Rattle.prop_refusals.specs.Refusals.{most}
use Rattle.prop_refusals.specs.declared.refusal.Limit.TheVariants.{Cells}
use Rattle.prop_compound.specs.Kept.{all_bare}
use Rattle.prop_compound.specs.inner.Kept.{fresh_of, total_of}
use Rattle.prop_compound.proofs.counting.all_fresh.Given as goal

abbrev pub invariant-loop-step : goal.invariant-loop-step
invariant-loop-step l =
    l.total ≡ min (most Cells + 1) (sum_by (fresh_of (total_of fresh_of (all_bare l.definitions)))
    (take l.step-index l.steps))
