use Rattle.std.proofs.Common.{◌+◌, ◌-◌, length}
use Rattle.prop_contents.specs.inner.Bearing.{AreSame}
use Rattle.prop_contents.proofs.bearing.reach.Given as goal

abbrev pub invariant-loop-alloc : goal.invariant-loop-alloc
invariant-loop-alloc l = AreSame l.initial.sets.items l.sets.items

abbrev pub decreases-loop-alloc : goal.decreases-loop-alloc
decreases-loop-alloc l = l.place + 1 - length l.sets.items
