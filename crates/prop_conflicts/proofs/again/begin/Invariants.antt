use Rattle.prop_lessons.specs.inner.Standing.{BeginUpTo}
use Rattle.prop_conflicts.proofs.again.begin.Given as goal

abbrev pub invariant-loop-number : goal.invariant-loop-number
invariant-loop-number l = BeginUpTo l.number l.one l.other
