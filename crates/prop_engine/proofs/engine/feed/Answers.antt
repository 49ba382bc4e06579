use Rattle.std.proofs.Common.{◌-◌, ◌+◌, ◌∙◌, arith, drop, length, refl, take}
use Rattle.std.proofs.lemmas.List.{length-drop}
use Rattle.prop_engine.proofs.Machines.{same_step}
use Rattle.prop_engine.proofs.Feeds.{feed_start, fed_line, fed_stop, fed_end, on_err}
use Rattle.prop_engine.proofs.engine.feed.Goals as goal

pub loop-end-init : goal.loop-end-init
loop-end-init g c =
    record { same = refl; ready = c.requires.ready; fed = feed_start g.D.Devices.calls _ _ _ _ _ _ }

pub returns-in_err-answer-clause-err : goal.returns-in_err-answer-clause-err
returns-in_err-answer-clause-err g c =
    let s = c.in_err-answer.ensures.step in
    let at = c.in-Some.ensures.some in
    let left = c.loop-end.left.now in
    let step : g.M.Interpreter.machine (g.M.Interpreter.setting c.loop-end.interpreter)
    (g.M.Interpreter.state c.loop-end.interpreter) c.extend.new.self s.0
    (g.M.Interpreter.state c.answer.new.interpreter) = rw (← c.as_slice.ensures) s.3 in
    let step' = same_step g.M.Interpreter.machine _ _ c.loop-end.invariant.same _ _ _ _ step in
    on_err _ _ (fed_stop g.D.Devices.calls _ _ _ _ _ _ _ _ _ _ _ c.loop-end.invariant.fed (take c.in-Some.end left)
    (drop (c.in-Some.end + 1) left) at.1 at.2 c.extend.new.self c.extend.ensures (g.met.M.Interpreter.asks_by_prefix _)
    _ s.0 _ s.1 s.2 step' s.4)

pub returns-clause-ok : goal.returns-clause-ok
returns-clause-ok g c =
    (fed_end g.D.Devices.calls _ _ _ _ _ _ _ _ _ _ _ c.loop-end.invariant.fed c.extend-2.new.self
    (c.in_default.ensures.none refl) c.extend-2.ensures).0

pub loop-end-preserved : goal.loop-end-preserved
loop-end-preserved g c =
    let s = c.in_ok-answer.ensures.step in
    let at = c.in-Some.ensures.some in
    let left = c.loop-end.left.now in
    let end = c.in-Some.end in
    let step : g.M.Interpreter.machine (g.M.Interpreter.setting c.loop-end.interpreter)
    (g.M.Interpreter.state c.loop-end.interpreter) c.extend.new.self s.0
    (g.M.Interpreter.state c.answer.new.interpreter) = rw (← c.as_slice.ensures) s.3 in
    let step' = same_step g.M.Interpreter.machine _ _ c.loop-end.invariant.same _ _ _ _ step in record {
      same = c.in_ok-answer.ensures.same ∙ c.loop-end.invariant.same;
      ready = c.in_ok-answer.ensures.ready;
      fed = fed_line g.D.Devices.calls _ _ _ _ _ _ _ _ _ _ _ c.loop-end.invariant.fed (take end left)
          (drop (end + 1) left) at.1 at.2 c.extend.new.self c.extend.ensures (g.met.M.Interpreter.asks_by_prefix _)
          _ s.0 _ s.1 s.2 step' _ s.4.0 s.4.1 c.clear.new.self c.clear.ensures (length left - (end + 1))
          (omega (arith, length-drop (end + 1) left));
    }
