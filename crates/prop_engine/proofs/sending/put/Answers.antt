use Rattle.std.proofs.Common.{[], refl, arith}
use Rattle.prop_engine.specs.Dialogues.IsWritten.{none}
use Rattle.prop_engine.proofs.Sent.{wrote_more, cut_failed, cut_at_none, count_in_range}
use Rattle.prop_engine.proofs.sending.put.Goals as goal

pub loop-at-init : goal.loop-at-init
loop-at-init g c = record { in_range = omega arith; so_far = ([], refl, none) }

pub returns-in-Err-clause-calls : goal.returns-in-Err-clause-calls
returns-in-Err-clause-calls g c =
    let w = c.in-Err.ensures.calls in
    cut_failed g.D.Devices.calls _ _ _ c.args.bytes.now c.loop-at.at c.loop-at.invariant.so_far w.0 w.1
    c.loop-at-test.true _ w.2

pub returns-then-count-eq0-clause-calls : goal.returns-then-count-eq0-clause-calls
returns-then-count-eq0-clause-calls g c =
    let w = c.in-Ok.ensures.calls in
    cut_at_none g.D.Devices.calls _ _ _ c.args.bytes.now c.loop-at.at c.loop-at.invariant.so_far w.0 w.1
    c.loop-at-test.true c.in-Ok.count c.if-count-eq0.true w.2

pub loop-at-preserved : goal.loop-at-preserved
loop-at-preserved g c =
    let w = c.in-Ok.ensures.calls in record {
      in_range = count_in_range c.args.bytes.now _ _ c.loop-at.invariant.in_range c.in-Ok.ensures.bound;
      so_far = wrote_more g.D.Devices.calls _ _ _ c.args.bytes.now c.loop-at.at c.loop-at.invariant.so_far w.0 w.1
          c.in-Ok.count (omega (arith, c.if-count-eq0.false)) c.in-Ok.ensures.bound w.2;
    }
