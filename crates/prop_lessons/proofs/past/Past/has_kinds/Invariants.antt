use Rattle.prop_lessons.specs.inner.Standing.{BeginUpTo}
use Rattle.prop_lessons.proofs.past.Past.has_kinds.Given as goal

abbrev pub invariant-loop-cell : goal.invariant-loop-cell
invariant-loop-cell l = BeginUpTo l.cell l.self.attached.kinds l.cells.kinds
