use Rattle.std.proofs.Common.{◌≡◌, ◌∙◌, ap, subst}
use Rattle.prop_procedures.specs.Kept.{stored_of}
use Rattle.prop_amb.specs.declared.outcome.Outcome.TheVariants.{Unsettled}
use Rattle.prop_language.specs.Commands as commands
use Rattle.prop_engine.specs.Answers.{answer_of}
use Rattle.prop_workbench.specs.Machine.{State}
use Rattle.prop_workbench.specs.Questions.{outcome_of}
use Rattle.prop_workbench.specs.inner.Questions.{SaysSoFar}
use Rattle.prop_workbench.specs.Sessions.{state_of, shown_of, work_of}
use Rattle.prop_workbench.proofs.AskLemmas.{free_core}
use Rattle.prop_workbench.proofs.AnsweredLemmas.{memory_answered}
use Rattle.prop_workbench.proofs.EarnedLemmas.{earns_core}
use Rattle.prop_workbench.proofs.RunLemmas.{covered_end, covered_still, keeps_then, run_obeyed}
use Rattle.prop_workbench.proofs.WakingLemmas.{stays_said}
use Rattle.prop_workbench.proofs.session.Session.core_of.Goals as goal

pub core_reply-requires-clause-means : goal.core_reply-requires-clause-means
core_reply-requires-clause-means g c = rw c.run_network.ensures.keeps.library c.requires.means

pub core_reply-requires-clause-sound : goal.core_reply-requires-clause-sound
core_reply-requires-clause-sound g c = c.run_network.ensures.keeps.sound

pub core_reply-requires-clause-named : goal.core_reply-requires-clause-named
core_reply-requires-clause-named g c = rw c.run_network.ensures.names c.requires.named

pub core_reply-requires-clause-run : goal.core_reply-requires-clause-run
core_reply-requires-clause-run g c = c.in-Ok.ensures.run

pub returns-in-Ok : goal.returns-in-Ok
returns-in-Ok g c =
    let s = c.args.self.now in
    let t = c.run_network.new.self in
    let u = c.core_reply.new.self in
    let name = c.args.name.now in
    let said = c.in-Ok.ensures.run in
    let library = stored_of g.R.Rule.value_of s.live.network.library in
    let kept = c.run_network.ensures.keeps in
    let then = c.core_reply.ensures.keeps in
    let state = c.run_network.ensures.state in
    let outcome = outcome_of t.search.list c.in-Ok.field-0.end in
    let believed = subst (λ (v : State). c.in-Ok.field-0.end ≡ Unsettled
    → SaysSoFar v (work_of t) (commands.Command.Core name) (answer_of c.core_reply.result.0)) state in
    record {
      keeps = keeps_then g.R.Rule.value_of s t u kept then;
      step = run_obeyed library (shown_of s) (shown_of u) (commands.Command.Core name) outcome _ c.core_reply.result.1
          (λ library v w answer steps r. r)
          (free_core library (state_of s) name c.args.cell c.requires.named) (c.core_reply.ensures.state ∙ state)
          (λ m covered. then.covers m (kept.covers m covered))
          (covered_still (shown_of t) (shown_of u) outcome then.covers
          (covered_end (shown_of t) t.search.list c.in-Ok.field-0.end said.covered)) (rw (kept.library, state) at
          said.ends)
          (rw (kept.library, state) at c.core_reply.ensures.says)
          (rw (ap (λ (v : State). v.limit) state) at c.core_reply.ensures.within);
      rests = record {
        lean = tt;
        wakes = stays_said library (state_of s) (commands.Command.Core name) outcome c.core_reply.result.1
            (answer_of c.core_reply.result.0) (work_of s) (work_of u)
            (rw (kept.library, state) at c.core_reply.ensures.says);
        earned = earns_core g.O.Order.picks library (state_of s) (work_of s) (work_of t) (work_of u) name
            c.in-Ok.field-0.end
            c.in-Ok.field-0.steps c.core_reply.result.1 _ c.in-Ok.ensures.gone c.in-Ok.ensures.left
            (believed c.core_reply.ensures.believed) c.in-Ok.ensures.blamed
            (rw (kept.library, state) at c.core_reply.ensures.tried) c.core_reply.ensures.untried
            (rw (kept.library, state) at c.core_reply.ensures.says);
      };
    }

pub returns-in-Err : goal.returns-in-Err
returns-in-Err g c = memory_answered g.O.Order.picks g.R.Rule.value_of c.args.self.now c.run_network.new.self
    (commands.Command.Core c.args.name.now) c.run_network.ensures.keeps c.run_network.ensures.state tt
