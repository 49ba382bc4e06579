use Rattle.std.proofs.Common.{sym}
use Rattle.prop_refusals.specs.declared.refusal.Refusal.TheVariants.{NoSuchCell}
use Rattle.prop_procedures.specs.Kept.{stored_of}
use Rattle.prop_language.specs.Commands as commands
use Rattle.prop_workbench.specs.Sessions.{state_of}
use Rattle.prop_workbench.proofs.AnsweredLemmas.{refused_answered}
use Rattle.prop_workbench.proofs.AskLemmas.{nowhere_why}
use Rattle.prop_workbench.proofs.session.Session.why.Goals as goal

pub answered-requires-clause-named : goal.answered-requires-clause-named
answered-requires-clause-named g c = sym c.in-Some.ensures.number

pub returns-in-None : goal.returns-in-None
returns-in-None g c =
    let s = c.args.self.now in
    refused_answered g.O.Order.picks g.R.Rule.value_of s (commands.Command.Why c.args.name.now) NoSuchCell
    c.requires.sound
    (nowhere_why (stored_of g.R.Rule.value_of s.live.network.library) (state_of s) c.args.name.now
    (sym c.in-None.ensures.number))

pub returns-in-Some : goal.returns-in-Some
returns-in-Some g c = c.answered.ensures
