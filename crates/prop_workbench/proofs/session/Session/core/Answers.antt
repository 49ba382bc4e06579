use Rattle.std.proofs.Common.{sym}
use Rattle.prop_refusals.specs.declared.refusal.Refusal.TheVariants.{NoSuchCell}
use Rattle.prop_procedures.specs.Kept.{stored_of}
use Rattle.prop_language.specs.Commands as commands
use Rattle.prop_workbench.specs.Sessions.{state_of}
use Rattle.prop_workbench.proofs.AnsweredLemmas.{refused_answered}
use Rattle.prop_workbench.proofs.AskLemmas.{nowhere_core}
use Rattle.prop_workbench.proofs.session.Session.core.Goals as goal

pub core_of-requires-clause-named : goal.core_of-requires-clause-named
core_of-requires-clause-named g c = sym c.in-Some.ensures.number

pub returns-in-None : goal.returns-in-None
returns-in-None g c =
    let s = c.args.self.now in
    refused_answered g.O.Order.picks g.R.Rule.value_of s (commands.Command.Core c.args.name.now) NoSuchCell
    c.requires.sound
    (nowhere_core (stored_of g.R.Rule.value_of s.live.network.library) (state_of s) c.args.name.now
    (sym c.in-None.ensures.number))

pub returns-in-Some : goal.returns-in-Some
returns-in-Some g c = c.core_of.ensures
