use Rattle.prop_deriving.specs.Known.{AlwaysStays}
use Rattle.prop_deriving.proofs.learning.Learning.drop_next.Given as goal

abbrev pub invariant-loop-at : goal.invariant-loop-at
invariant-loop-at l = AlwaysStays l.fn.self l.self
