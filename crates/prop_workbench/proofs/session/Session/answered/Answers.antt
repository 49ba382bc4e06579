use Rattle.std.proofs.Common.{ap, Ok, Some, subst, sym}
use Rattle.prop_procedures.specs.Kept.{stored_of}
use Rattle.prop_workbench.specs.Machine.{State, worldview_at}
use Rattle.prop_workbench.specs.Reasons.{IsLeanAnswer}
use Rattle.prop_engine.specs.Answers.{answer_of}
use Rattle.prop_workbench.specs.inner.Questions.{command_of, IsNamed}
use Rattle.prop_workbench.specs.Questions.{outcome_of}
use Rattle.prop_workbench.specs.Sessions.{state_of, shown_of, work_of}
use Rattle.prop_workbench.proofs.AskLemmas.{carries, free}
use Rattle.prop_workbench.proofs.AnsweredLemmas.{memory_answered}
use Rattle.prop_workbench.proofs.EarnedLemmas.{earns}
use Rattle.prop_workbench.proofs.WakingLemmas.{stays_said, wakes_asked}
use Rattle.prop_workbench.proofs.RunLemmas.{covered_end, run_obeyed}
use Rattle.prop_workbench.proofs.session.Session.answered.Goals as goal

pub reply_to-requires-clause-sound : goal.reply_to-requires-clause-sound
reply_to-requires-clause-sound g c = c.run_network.ensures.keeps.sound

pub reply_to-requires-clause-named : goal.reply_to-requires-clause-named
reply_to-requires-clause-named g c =
    subst (λ (t : State). IsNamed t c.args.question) (sym c.run_network.ensures.state) c.requires.named

pub reply_to-requires-clause-run : goal.reply_to-requires-clause-run
reply_to-requires-clause-run g c = c.in-Ok.ensures.run

pub returns-in-Ok : goal.returns-in-Ok
returns-in-Ok g c =
    let s = c.args.self.now in
    let t = c.run_network.new.self in
    let said = c.in-Ok.ensures.run in
    let library = stored_of g.R.Rule.value_of s.live.network.library in
    let kept = c.run_network.ensures.keeps in
    let state = c.run_network.ensures.state in
    record {
      keeps = kept;
      step = run_obeyed library (shown_of s) (shown_of t) (command_of c.args.question)
          (outcome_of t.search.list c.in-Ok.field-0.end) _ c.in-Ok.field-0.steps (λ lib u v. carries lib u v
          c.args.question)
          (free library (state_of s) c.args.question c.requires.named) state kept.covers
          (covered_end (shown_of t) t.search.list c.in-Ok.field-0.end said.covered) (rw (kept.library, state) at
          said.ends)
          (rw (kept.library, state) at c.reply_to.ensures.says)
          (rw (ap (λ (u : State). u.limit) state) at said.within);
      rests = record {
        lean = subst (λ (u : State). IsLeanAnswer (worldview_at u t.search.list) t.live.network.cells u
            (Ok (Some (command_of c.args.question))) (answer_of c.reply_to.result)) state c.reply_to.ensures.lean;
        earned = earns _ library (state_of s) (work_of s) (work_of t) c.args.question c.in-Ok.field-0.end
            c.in-Ok.field-0.steps _
            c.in-Ok.ensures.gone c.in-Ok.ensures.left (rw state at c.reply_to.ensures.believed) c.in-Ok.ensures.blamed
            (rw (kept.library, state) at c.reply_to.ensures.says);
        wakes = wakes_asked (state_of s) (state_of t) (work_of s) (work_of t) c.args.question
            (answer_of c.reply_to.result)
            (stays_said _ _ _ _ _ (answer_of c.reply_to.result) (work_of s) (work_of t) c.reply_to.ensures.says);
      };
    }

pub returns-in-Err : goal.returns-in-Err
returns-in-Err g c = memory_answered g.O.Order.picks g.R.Rule.value_of c.args.self.now c.run_network.new.self
    (command_of c.args.question) c.run_network.ensures.keeps c.run_network.ensures.state
    (wakes_asked (state_of c.args.self.now) (state_of c.run_network.new.self) (work_of c.args.self.now)
    (work_of c.run_network.new.self) c.args.question _ tt)
