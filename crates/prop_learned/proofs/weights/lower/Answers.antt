use Rattle.std.proofs.Common.{get_or, arith}
use Rattle.std.proofs.lemmas.List.{get_or_default}
use Rattle.std.proofs.lemmas.List.Edits.{map_over_more}
use Rattle.prop_learned.specs.Weighing.{lowered}
use Rattle.prop_learned.proofs.weights.lower.Goals as goal

pub loop-weight-preserved : goal.loop-weight-preserved
loop-weight-preserved c =
    let ys = c.loop-weight.weight-items in
    let i = c.loop-weight.weight-index in
    map_over_more lowered c.args.each.now ys i (get_or ys i 0) c.loop-weight-test.true c.loop-weight.invariant
    (get_or_default ys i 0 (get_or ys i 0) (omega arith))
