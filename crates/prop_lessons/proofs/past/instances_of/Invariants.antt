use Rattle.std.proofs.Common.{◌≡◌, take}
use Rattle.prop_lessons.proofs.past.instances_of.Given as goal

abbrev pub invariant-loop-number : goal.invariant-loop-number
invariant-loop-number l = l.instances.items ≡ take l.number l.cells.instances
