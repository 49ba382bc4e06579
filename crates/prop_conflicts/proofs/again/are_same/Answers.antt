use Rattle.std.proofs.Common.{arith}
use Rattle.prop_conflicts.proofs.FitLemmas.{same_lists}
use Rattle.prop_conflicts.proofs.again.are_same.Goals as goal

pub returns : goal.returns
returns c = λ t. same_lists c.args.one.now c.args.other.now (omega arith) (c.begin.ensures t)
