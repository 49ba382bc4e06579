use Rattle.std.proofs.Common.{◌≡◌, ◌∙◌, sym, arith, [], List, ℕ}
use Rattle.std.specs.Borrow.{Bor}
use Rattle.std.proofs.lemmas.List.{length-map, get_or-map}
use Rattle.prop_procedures.specs.Kept.{stored_of}
use Rattle.prop_language.specs.Said.{words}
use Rattle.prop_engine.specs.Answers.{answer_of}
use Rattle.prop_workbench.specs.Engine.{machine_of, learning}
use Rattle.prop_workbench.specs.Sessions.{shown_of, steps_of, library_of}
use Rattle.prop_host_tests.proofs.Lines.{run_next}
use Rattle.prop_host_tests.proofs.session.carry_out.Goals as goal

pub loop-line-preserved : goal.loop-line-preserved
loop-line-preserved g c =
    let value = g.R.Rule.value_of in
    let lines = words c.args.lines.now in
    let i = c.loop-line.line-index in
    let l = c.loop-line-test.true in
    let line = c.as_bytes.ensures.value ∙ sym (get_or-map (λ (w : Bor (List ℕ)). w.now) c.args.lines.now i _ [] l) in
    let same = c.loop-line.invariant.same in
    let machine : machine_of value c.loop-line.session ≡ machine_of value c.args.session.now =
    λ i. learning (stored_of value (same i)) in
    let shows : machine_of value c.loop-line.session (shown_of c.loop-line.session) c.as_bytes.result.now
    (answer_of c.command.result) (shown_of c.command.new.self) = record {
      steps = steps_of c.command.new.self;
      step = c.command.ensures.step;
    } in record {
      same = c.command.ensures.same ∙ same;
      sound = c.command.ensures.sound;
      run = run_next (library_of value c.args.session.now) (shown_of c.args.session.now) (shown_of c.loop-line.session)
          (shown_of c.command.new.self) lines i c.as_bytes.result.now c.loop-line.replies.items c.push.new.self.items
          c.command.result
          (omega (arith, l, length-map c.args.lines.now (λ (w : Bor (List ℕ)). w.now))) line c.in_ok-push.ensures.items
          c.loop-line.invariant.run (rw machine at shows);
    }
