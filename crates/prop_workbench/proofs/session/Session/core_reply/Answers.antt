use Rattle.std.proofs.Common.{◌≡◌, ◌∙◌, sym, refl}
use Rattle.prop_procedures.specs.Kept.{stored_of}
use Rattle.prop_language.specs.Commands as commands
use Rattle.prop_amb.specs.declared.outcome.Outcome.TheVariants as ended
use Rattle.prop_workbench.specs.Running.{MayEnd, Contradiction}
use Rattle.prop_workbench.specs.Sessions.{state_of}
use Rattle.prop_workbench.proofs.AskLemmas.{may_contradict, believed_known, why_so_far}
use Rattle.prop_workbench.proofs.SoundLemmas.{unchanged}
use Rattle.prop_workbench.proofs.session.Session.core_reply.Goals as goal

pub reduced-requires-clause-rest : goal.reduced-requires-clause-rest
reduced-requires-clause-rest g c = record {
  full = c.requires.run.full c.in-Settled.is;
  settled = c.requires.run.settled c.in-Settled.is;
}

pub reduced-requires-clause-within : goal.reduced-requires-clause-within
reduced-requires-clause-within g c = c.requires.run.within

pub reduced-requires-clause-few : goal.reduced-requires-clause-few
reduced-requires-clause-few g c = c.requires.run.few

pub reduced-requires-clause-sound : goal.reduced-requires-clause-sound
reduced-requires-clause-sound g c = c.requires.sound

pub unsettled-requires-clause-sound : goal.unsettled-requires-clause-sound
unsettled-requires-clause-sound g c = c.requires.sound

pub unsettled-requires-clause-named : goal.unsettled-requires-clause-named
unsettled-requires-clause-named g c = c.requires.named

pub contradiction_reply-reply-requires : goal.contradiction_reply-reply-requires
contradiction_reply-reply-requires g c =
    let s = c.args.self.now in
    let library = stored_of g.R.Rule.value_of s.live.network.library in
    let ends : MayEnd library (state_of s) (Contradiction c.in-Contradiction.premises) =
    rw c.in-Contradiction.is at c.requires.run.ends in
    rw c.premises.ensures (believed_known s.search.premises c.in-Contradiction.premises ends.0)

pub returns-in-Settled-clause-keeps : goal.returns-in-Settled-clause-keeps
returns-in-Settled-clause-keeps g c = c.reduced.ensures.keeps

pub returns-in-Settled-clause-says : goal.returns-in-Settled-clause-says
returns-in-Settled-clause-says g c = rw c.in-Settled.is c.reduced.ensures.says

pub returns-in-Settled-clause-tried : goal.returns-in-Settled-clause-tried
returns-in-Settled-clause-tried g c = λ e. c.reduced.ensures.tried

pub returns-in-Settled-clause-untried : goal.returns-in-Settled-clause-untried
returns-in-Settled-clause-untried g c = λ other. absurd (other c.in-Settled.is)

pub returns-in-Contradiction-clause-keeps : goal.returns-in-Contradiction-clause-keeps
returns-in-Contradiction-clause-keeps g c = unchanged c.requires.sound

pub returns-in-Contradiction-clause-says : goal.returns-in-Contradiction-clause-says
returns-in-Contradiction-clause-says g c =
    let s = c.args.self.now in
    rw c.in-Contradiction.is (may_contradict (stored_of g.R.Rule.value_of s.live.network.library) (state_of s)
    (commands.Command.Core c.args.name.now) c.in-Contradiction.premises _ c.args.steps
    c.contradiction_reply-reply.ensures.in_order
    (rw c.premises.ensures at c.contradiction_reply-reply.ensures.says))

pub returns-in-Contradiction-clause-within : goal.returns-in-Contradiction-clause-within
returns-in-Contradiction-clause-within g c = c.requires.run.within

pub returns-in-Contradiction-clause-tried : goal.returns-in-Contradiction-clause-tried
returns-in-Contradiction-clause-tried g c =
    λ e. let f : ended.Contradiction c.in-Contradiction.premises ≡ ended.Settled = sym c.in-Contradiction.is ∙ e in cc

pub returns-in-Contradiction-clause-untried : goal.returns-in-Contradiction-clause-untried
returns-in-Contradiction-clause-untried g c = λ other. (refl, refl)

pub returns-in-Unsettled-clause-keeps : goal.returns-in-Unsettled-clause-keeps
returns-in-Unsettled-clause-keeps g c = unchanged c.requires.sound

pub returns-in-Unsettled-clause-says : goal.returns-in-Unsettled-clause-says
returns-in-Unsettled-clause-says g c =
    let s = c.args.self.now in
    rw (c.requires.run.spent c.in-Unsettled.is, c.in-Unsettled.is)
    (why_so_far (stored_of g.R.Rule.value_of s.live.network.library) (state_of s) s.search.list c.args.name.now _
    s.limit
    c.unsettled.ensures.says)

pub returns-in-Unsettled-clause-within : goal.returns-in-Unsettled-clause-within
returns-in-Unsettled-clause-within g c = c.requires.run.within

pub returns-in-Unsettled-clause-tried : goal.returns-in-Unsettled-clause-tried
returns-in-Unsettled-clause-tried g c = λ e. let f : ended.Unsettled ≡ ended.Settled = sym c.in-Unsettled.is ∙ e in cc

pub returns-in-Unsettled-clause-untried : goal.returns-in-Unsettled-clause-untried
returns-in-Unsettled-clause-untried g c = λ other. (refl, refl)

pub returns-in-Settled-clause-believed : goal.returns-in-Settled-clause-believed
returns-in-Settled-clause-believed g c = λ e. let f : ended.Settled ≡ ended.Unsettled = sym c.in-Settled.is ∙ e in cc

pub returns-in-Contradiction-clause-believed : goal.returns-in-Contradiction-clause-believed
returns-in-Contradiction-clause-believed g c =
    λ e. let f : ended.Contradiction c.in-Contradiction.premises ≡ ended.Unsettled = sym c.in-Contradiction.is ∙ e in cc

pub returns-in-Unsettled-clause-believed : goal.returns-in-Unsettled-clause-believed
returns-in-Unsettled-clause-believed g c = λ e. c.unsettled.ensures.believed
