use Rattle.std.proofs.Common.{List, ℕ, subst}
use Rattle.prop_procedures.specs.Kept.{stored_of}
use Rattle.prop_engine.specs.Answers.{answer_of}
use Rattle.prop_blaming.specs.Blaming.{blaming}
use Rattle.prop_seeking.specs.inner.Seekers.{sought_of}
use Rattle.prop_requiring.proofs.requirer.Requirer.fix.Goals as goal

pub returns-in-Some-clause-passes : goal.returns-in-Some-clause-passes
returns-in-Some-clause-passes g c =
    let old = c.args.self.now.blamer.seeker in
    let library = stored_of g.R.Rule.value_of old.teller.session.live.network.library in
    let P : List ℕ → Type 0 = λ line.
    blaming g.O.Order.picks library (sought_of old) line (answer_of c.command.result)
    (sought_of c.command.new.self.seeker) in
    rw c.in-Some.is (answer_of c.command.result, subst P c.deref.ensures.value c.command.ensures.blames)
