use Rattle.std.proofs.Common.{◌∙◌, refl, add-one}
use Rattle.prop_amb.proofs.ReasonLaws.{cleared_more, cleared_all}
use Rattle.prop_amb.proofs.reasons.forget.Goals as goal

pub loop-each-init : goal.loop-each-init
loop-each-init c = refl

pub loop-each-preserved : goal.loop-each-preserved
loop-each-preserved c = rw (c.loop-each.invariant, c.clear.ensures, add-one)
    (cleared_more c.loop-each.each-index c.args.reasons.now c.loop-each-test.true)

pub returns : goal.returns
returns c = c.loop-each.invariant ∙ cleared_all c.loop-each.each-index c.args.reasons.now c.loop-each-test.false
