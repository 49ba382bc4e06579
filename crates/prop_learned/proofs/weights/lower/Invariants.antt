use Rattle.std.proofs.Common.{◌≡◌, ◌++◌, map, take, drop}
use Rattle.prop_learned.specs.Weighing.{lowered}
use Rattle.prop_learned.proofs.weights.lower.Given as goal

abbrev pub invariant-loop-weight : goal.invariant-loop-weight
invariant-loop-weight l =
    l.weight-items ≡ map lowered (take l.weight-index l.fn.each) ++ drop l.weight-index l.fn.each
