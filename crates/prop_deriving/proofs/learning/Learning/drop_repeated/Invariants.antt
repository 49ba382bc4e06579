use Rattle.prop_deriving.specs.Known.{AlwaysStays}
use Rattle.prop_deriving.proofs.learning.Learning.drop_repeated.Given as goal

abbrev pub invariant-loop : goal.invariant-loop
invariant-loop l = AlwaysStays l.fn.self l.self
