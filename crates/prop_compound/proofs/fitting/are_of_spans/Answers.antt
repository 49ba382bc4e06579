use Rattle.std.proofs.Common.{ap, get_or, length, refl, arith}
use Rattle.prop_compound.proofs.Spans.{one_more, all_spans, spans_right}
use Rattle.prop_compound.proofs.fitting.are_of_spans.Goals as goal

pub loop-i-preserved : goal.loop-i-preserved
loop-i-preserved c =
    let same = c.deref-cell-items.ensures.value in
    one_more c.args.ins.now c.args.kinds.now c.args.instance.now.inputs.items c.requires.count c.loop-i.i _ _ _
    c.kind_at.result (omega (arith, c.loop-i-test.true, ap length same)) (ap (λ cells. get_or cells c.loop-i.i 0) same)
    refl c.kind_at.ensures c.loop-i.invariant (c.is_of_spans.ensures c.if-not-is_of_spans.false)

pub returns : goal.returns
returns c spans =
    let same = c.deref-cell-items.ensures.value in
    spans_right _ (all_spans c.args.ins.now c.args.kinds.now c.args.instance.now.inputs.items c.requires.count
    c.loop-i.i _ _ _ (omega (arith, c.loop-i-test.false, ap length same)) c.kind_at-2.ensures c.loop-i.invariant
    (c.is_of_spans-2.ensures spans))
