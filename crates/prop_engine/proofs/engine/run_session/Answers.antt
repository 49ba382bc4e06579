use Rattle.std.proofs.Common.{◌∙◌, [], refl, arith, sym}
use Rattle.std.proofs.lemmas.Bool.{false≢true}
use Rattle.std.proofs.lemmas.Result.{err_from_is_err_and}
use Rattle.std.proofs.lemmas.List.{length-take}
use Rattle.prop_engine.specs.Dialogues.Turns.{none}
use Rattle.prop_engine.proofs.Machines.{same_step, same_advance, same_stop}
use Rattle.prop_engine.proofs.Runs.{start_progress}
use Rattle.prop_engine.proofs.Ending.{read_failed, too_many, ended_plain, ended_line, ended_cut, turned, stopped}
use Rattle.prop_engine.proofs.Ending.{by_fault}
use Rattle.prop_engine.proofs.engine.run_session.Goals as goal

pub loop-turn-init : goal.loop-turn-init
loop-turn-init g c = record {
  same = refl;
  ready = c.requires.ready;
  so_far = record {
    input = [];
    answers = [];
    calls = [];
    leads = refl;
    turns = none;
    so_far = start_progress _ _ _ refl refl _ c.new-pending.ensures;
  };
  piece = refl;
  lines = omega arith;
  refused = omega arith;
}

pub returns-in-Err-clause-speaks : goal.returns-in-Err-clause-speaks
returns-in-Err-clause-speaks g c =
    let r = rw c.loop-turn.invariant.piece at c.in-Err.ensures.calls in
    read_failed g.D.Devices.calls _ _ _ _ _ _ _ _ _ c.loop-turn.invariant.so_far c.args.reads c.loop-turn-test.true
    r.0 r.1 _ r.2

pub returns-in_err-answer-clause-speaks : goal.returns-in_err-answer-clause-speaks
returns-in_err-answer-clause-speaks g c =
    let p = err_from_is_err_and c.from_residual.result c.from_residual.ensures.1 in
    let r = rw (c.if-count-eq0.true, c.loop-turn.invariant.piece) at c.in-Ok.ensures.calls in
    let s = c.in_err-answer.ensures.step in
    let step : g.M.Interpreter.machine (g.M.Interpreter.setting c.loop-turn.interpreter)
    (g.M.Interpreter.state c.loop-turn.interpreter) c.loop-turn.pending s.0
    (g.M.Interpreter.state c.answer.new.interpreter) = rw (← c.as_slice.ensures) s.3 in
    let step' = same_step g.M.Interpreter.machine _ _ c.loop-turn.invariant.same _ _ _ _ step in
    by_fault _ _ _ _ _ _ _ _ _ p.1 (p.2 ∙ c.in_err-answer.ensures.fault)
    (ended_cut g.D.Devices.calls _ _ _ _ _ _ _ _ _ c.loop-turn.invariant.so_far c.args.reads c.loop-turn-test.true
    r.0 r.1 (g.met.M.Interpreter.asks_by_prefix _) s.0 _ s.1 _ s.2 step' r.2 (λ e. false≢true (sym
    c.if-not-is_empty.true ∙ c.is_empty.ensures.1 e)) s.4)

pub returns-in_ok-answer-clause-speaks : goal.returns-in_ok-answer-clause-speaks
returns-in_ok-answer-clause-speaks g c =
    let r = rw (c.if-count-eq0.true, c.loop-turn.invariant.piece) at c.in-Ok.ensures.calls in
    let s = c.in_ok-answer.ensures.step in
    let step : g.M.Interpreter.machine (g.M.Interpreter.setting c.loop-turn.interpreter)
    (g.M.Interpreter.state c.loop-turn.interpreter) c.loop-turn.pending s.0
    (g.M.Interpreter.state c.answer.new.interpreter) = rw (← c.as_slice.ensures) s.3 in
    let step' = same_step g.M.Interpreter.machine _ _ c.loop-turn.invariant.same _ _ _ _ step in
    ended_line g.D.Devices.calls _ _ _ _ _ _ _ _ _ c.loop-turn.invariant.so_far c.args.reads c.loop-turn-test.true
    r.0 r.1 (g.met.M.Interpreter.asks_by_prefix _) s.0 _ s.1 _ s.2 step' r.2 (λ e. false≢true (sym
    c.if-not-is_empty.true ∙ c.is_empty.ensures.1 e)) s.4.0 _ s.4.1

pub returns-else-not-is_empty-clause-speaks : goal.returns-else-not-is_empty-clause-speaks
returns-else-not-is_empty-clause-speaks g c =
    let r = rw (c.if-count-eq0.true, c.loop-turn.invariant.piece) at c.in-Ok.ensures.calls in
    ended_plain g.D.Devices.calls _ _ _ _ _ _ _ _ _ c.loop-turn.invariant.so_far c.args.reads c.loop-turn-test.true
    r.0 r.1 r.2 (c.is_empty.ensures.0 c.if-not-is_empty.false)

pub returns-in_err-feed-clause-speaks : goal.returns-in_err-feed-clause-speaks
returns-in_err-feed-clause-speaks g c =
    let p = err_from_is_err_and c.from_residual-in_err-feed.result c.from_residual-in_err-feed.ensures.1 in
    let r = rw c.loop-turn.invariant.piece at c.in-Ok.ensures.calls in
    let f = c.in_err-feed.ensures.err in
    let stops = same_stop g.M.Interpreter.machine _ _ c.loop-turn.invariant.same _ _ _ _ _ _ f.2 in
    by_fault _ _ _ _ _ _ _ _ _ p.1 (p.2 ∙ c.in_err-feed.ensures.fault)
    (stopped g.D.Devices.calls _ _ _ _ _ _ _ _ _ c.loop-turn.invariant.so_far c.args.reads c.loop-turn-test.true
    r.0 r.1 _ (omega (
      arith,
      c.if-count-eq0.false,
      c.in-Ok.ensures.bound.0,
      c.in-Ok.ensures.bound.1,
      length-take
          c.in-Ok.count c.read.new.buffer,
    )) r.2 _ f.0 f.1 _ stops)

pub loop-turn-preserved : goal.loop-turn-preserved
loop-turn-preserved g c =
    let r = rw c.loop-turn.invariant.piece at c.in-Ok.ensures.calls in
    let f = c.in_ok-feed.ensures.ok in
    let advanced = same_advance g.M.Interpreter.machine _ _ c.loop-turn.invariant.same _ _ _ _ _ _ _ _ f.4 in record {
      same = c.in_ok-feed.ensures.same ∙ c.loop-turn.invariant.same;
      ready = c.in_ok-feed.ensures.ready;
      so_far = turned g.D.Devices.calls _ _ _ _ _ _ _ _ _ c.loop-turn.invariant.so_far c.args.reads
          c.loop-turn-test.true r.0 r.1 _
          (omega (
            arith,
            c.if-count-eq0.false,
            c.in-Ok.ensures.bound.0,
            c.in-Ok.ensures.bound.1,
            length-take
                c.in-Ok.count c.read.new.buffer,
          ))
          r.2 _ f.1 f.2 f.0 f.3 _ _ _ advanced;
      piece = omega (arith, c.read.auto.buffer, c.loop-turn.invariant.piece);
      lines = omega (
        arith,
        c.in_ok-feed.ensures.bounded.lines,
        c.in-Ok.ensures.bound.0,
        c.in-Ok.ensures.bound.1,
        c.loop-turn.invariant.lines,
        length-take c.in-Ok.count c.read.new.buffer,
        c.read.auto.buffer,
        c.loop-turn.invariant.piece,
      );
      refused = omega (
        arith,
        c.in_ok-feed.ensures.bounded.refused,
        c.in-Ok.ensures.bound.0,
        c.in-Ok.ensures.bound.1,
        c.loop-turn.invariant.refused,
        length-take c.in-Ok.count c.read.new.buffer,
        c.read.auto.buffer,
        c.loop-turn.invariant.piece,
      );
    }

pub returns-clause-speaks : goal.returns-clause-speaks
returns-clause-speaks g c =
    too_many g.D.Devices.calls _ _ c.args.devices.now _ _ _ _ _ _ c.loop-turn.invariant.so_far c.args.reads
    (omega (arith, c.loop-turn-test.false, c.loop-turn.auto._turn-end))
