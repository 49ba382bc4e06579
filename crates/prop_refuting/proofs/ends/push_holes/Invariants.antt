use Rattle.std.proofs.Common.{◌≡◌, ◌++◌}
use Rattle.prop_refuting.specs.Steps.{holes_at}
use Rattle.prop_refuting.proofs.ends.push_holes.Given as goal

abbrev pub invariant-loop-i : goal.invariant-loop-i
invariant-loop-i l = l.literals.items ≡ l.fn.literals.items ++ holes_at l.place l.first l.i
