use Rattle.prop_engine.proofs.Sent.{sent, cut_at_flush}
use Rattle.prop_engine.proofs.sending.send.Goals as goal

pub returns-in-Ok-clause-calls : goal.returns-in-Ok-clause-calls
returns-in-Ok-clause-calls g c =
    let w = c.in-Ok.ensures.calls in
    sent g.D.Devices.calls _ _ c.args.text.now _ c.in_ok-put.ensures.calls w.0 w.1 w.2

pub returns-in-Err-clause-calls : goal.returns-in-Err-clause-calls
returns-in-Err-clause-calls g c =
    let w = c.in-Err.ensures.calls in
    cut_at_flush g.D.Devices.calls _ _ c.args.text.now _ c.in_ok-put.ensures.calls w.0 w.1 _ w.2
