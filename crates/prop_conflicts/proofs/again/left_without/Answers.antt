use Rattle.std.proofs.Common.{arith}
use Rattle.prop_conflicts.proofs.FitLemmas.{believed_below}
use Rattle.prop_conflicts.proofs.again.left_without.Goals as goal

pub returns : goal.returns
returns c = λ p believed lacks.
    let below = believed_below c.args.premises.now p believed in
    c.loop-number.invariant p
    (omega (arith, c.loop-number-test.false, c.len-number-end.ensures.len, below)) believed lacks
