use Rattle.std.proofs.Common.{◌≡◌, ◌+◌, min, sum_by, take}
use Rattle.prop_refusals.specs.Refusals.{most}
use Rattle.prop_refusals.specs.declared.refusal.Limit.TheVariants.{Instances}
use Rattle.prop_compound.specs.Kept.{all_bare}
use Rattle.prop_compound.specs.inner.Kept.{instances_of, total_of}
use Rattle.prop_compound.proofs.counting.all_instances.Given as goal

abbrev pub invariant-loop-step : goal.invariant-loop-step
invariant-loop-step l =
    l.total ≡ min (most Instances + 1) (sum_by (instances_of (total_of instances_of (all_bare l.definitions)))
    (take l.step-index l.steps))
