use Rattle.prop_lessons.specs.inner.Standing.{BeginUpTo}
use Rattle.prop_lessons.proofs.past.Past.has_instances.Given as goal

abbrev pub invariant-loop-number : goal.invariant-loop-number
invariant-loop-number l = BeginUpTo l.number l.self.attached.instances l.cells.instances
