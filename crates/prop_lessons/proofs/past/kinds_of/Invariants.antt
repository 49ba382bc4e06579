use Rattle.std.proofs.Common.{◌≡◌, take}
use Rattle.prop_lessons.proofs.past.kinds_of.Given as goal

abbrev pub invariant-loop-cell : goal.invariant-loop-cell
invariant-loop-cell l = l.kinds.items ≡ take l.cell l.cells.kinds
