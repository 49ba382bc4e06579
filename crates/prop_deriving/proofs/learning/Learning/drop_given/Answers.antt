use Rattle.std.proofs.Common.{◌∙◌}
use Rattle.prop_procedures.specs.Kept.{stored_of}
use Rattle.prop_plans.specs.Held.{attached_of}
use Rattle.prop_deriving.proofs.StayLemmas.{stays_from}
use Rattle.prop_deriving.proofs.learning.Learning.drop_given.Goals as goal

pub returns : goal.returns
returns g c =
    let basis = c.args.basis.now in
    let library = stored_of g.R.Rule.value_of basis.network.now.library in
    let n = attached_of basis.network.now.cells in
    let choices = basis.choices.now in
    let root = basis.root.now in
    let slots = basis.store.now in
    stays_from library n choices root slots c.args.self.now c.self.inside.derivation c.drop_given.new.self
    (c.self.view_is ∙ c.forget_maker.ensures) c.drop_given.ensures
