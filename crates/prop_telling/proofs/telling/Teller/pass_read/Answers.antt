use Rattle.std.proofs.Common.{subst}
use Rattle.prop_procedures.specs.Kept.{stored_of}
use Rattle.prop_engine.specs.Answers.{answer_of}
use Rattle.prop_workbench.specs.Engine.{standing_of, WorkFits}
use Rattle.prop_workbench.proofs.WorkLemmas.{works_by, sound_fits}
use Rattle.prop_telling.proofs.telling.Teller.pass_read.Goals as goal

pub returns-clause-works : goal.returns-clause-works
returns-clause-works g c =
    let e = c.command_read.ensures in
    let fits = subst (λ library. WorkFits (stored_of g.R.Rule.value_of library) (standing_of c.command_read.new.self))
    e.same
    (sound_fits g.R.Rule.value_of c.command_read.new.self e.sound) in
    works_by g.O.Order.picks (stored_of g.R.Rule.value_of c.args.self.now.session.live.network.library)
    c.args.self.now.session c.command_read.new.self c.args.line.now (answer_of c.command_read.result) e.step fits e.lean
    e.earned
    e.wakes
