use Rattle.std.proofs.Common.{◌≡◌, ◌∙◌, sym}
use Rattle.prop_amb.specs.declared.outcome.Outcome.TheVariants as ended
use Rattle.prop_workbench.specs.Machine.{worldview_at}
use Rattle.prop_procedures.specs.Kept.{stored_of}
use Rattle.prop_workbench.specs.inner.Questions.{command_of}
use Rattle.prop_workbench.specs.Running.{MayEnd, Contradiction}
use Rattle.prop_workbench.specs.Sessions.{state_of}
use Rattle.prop_workbench.proofs.AskLemmas.{may_contradict, believed_known}
use Rattle.prop_workbench.proofs.ReasonLemmas.{contradiction_said, lean_contradicted}
use Rattle.prop_workbench.proofs.session.Session.reply_to.Goals as goal

pub settled-requires-clause-sound : goal.settled-requires-clause-sound
settled-requires-clause-sound g c = c.requires.sound

pub settled-requires-clause-rest : goal.settled-requires-clause-rest
settled-requires-clause-rest g c = record {
  full = c.requires.run.full c.in-Settled.is;
  settled = c.requires.run.settled c.in-Settled.is;
}

pub unsettled-requires-clause-sound : goal.unsettled-requires-clause-sound
unsettled-requires-clause-sound g c = c.requires.sound

pub contradiction_reply-requires : goal.contradiction_reply-requires
contradiction_reply-requires g c =
    let s = c.args.self.now in
    let library = stored_of g.R.Rule.value_of s.live.network.library in
    let ends : MayEnd library (state_of s) (Contradiction c.in-Contradiction.premises) =
    rw c.in-Contradiction.is at c.requires.run.ends in
    rw c.premises.ensures (believed_known s.search.premises c.in-Contradiction.premises ends.0)

pub returns-in-Settled-clause-says : goal.returns-in-Settled-clause-says
returns-in-Settled-clause-says g c = rw c.in-Settled.is (c.settled.ensures.says c.args.steps)

pub returns-in-Settled-clause-lean : goal.returns-in-Settled-clause-lean
returns-in-Settled-clause-lean g c = c.settled.ensures.lean

pub returns-in-Contradiction-clause-says : goal.returns-in-Contradiction-clause-says
returns-in-Contradiction-clause-says g c =
    let s = c.args.self.now in
    rw c.in-Contradiction.is (may_contradict (stored_of g.R.Rule.value_of s.live.network.library) (state_of s)
    (command_of c.args.question) c.in-Contradiction.premises _ c.args.steps c.contradiction_reply.ensures.in_order
    (rw c.premises.ensures at c.contradiction_reply.ensures.says))

pub returns-in-Contradiction-clause-lean : goal.returns-in-Contradiction-clause-lean
returns-in-Contradiction-clause-lean g c =
    let s = c.args.self.now in
    lean_contradicted (worldview_at (state_of s) s.search.list) s.live.network.cells (state_of s) c.args.question _
    (contradiction_said (state_of s) c.in-Contradiction.premises _
    (rw c.premises.ensures at c.contradiction_reply.ensures.says))

pub returns-in-Unsettled-clause-says : goal.returns-in-Unsettled-clause-says
returns-in-Unsettled-clause-says g c =
    rw (c.requires.run.spent c.in-Unsettled.is, c.in-Unsettled.is) c.unsettled.ensures.says

pub returns-in-Unsettled-clause-lean : goal.returns-in-Unsettled-clause-lean
returns-in-Unsettled-clause-lean g c = c.unsettled.ensures.lean

pub returns-in-Settled-clause-believed : goal.returns-in-Settled-clause-believed
returns-in-Settled-clause-believed g c = λ e. let f : ended.Settled ≡ ended.Unsettled = sym c.in-Settled.is ∙ e in cc

pub returns-in-Contradiction-clause-believed : goal.returns-in-Contradiction-clause-believed
returns-in-Contradiction-clause-believed g c =
    λ e. let f : ended.Contradiction c.in-Contradiction.premises ≡ ended.Unsettled = sym c.in-Contradiction.is ∙ e in cc

pub returns-in-Unsettled-clause-believed : goal.returns-in-Unsettled-clause-believed
returns-in-Unsettled-clause-believed g c = λ e. c.unsettled.ensures.believed
