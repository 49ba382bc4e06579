use Rattle.std.proofs.Common.{[]}
use Rattle.prop_procedures.specs.Kept.{stored_of}
use Rattle.prop_plans.specs.Held.{attached_of}
use Rattle.prop_deriving.proofs.StayLemmas.{stays_from, stays_where}
use Rattle.prop_deriving.proofs.derivation.Derivation.drop_one_given.Goals as goal

pub returns : goal.returns
returns g c =
    let basis = c.args.basis.now in
    let library = stored_of g.R.Rule.value_of basis.network.now.library in
    let n = attached_of basis.network.now.cells in
    let choices = basis.choices.now in
    let root = basis.root.now in
    let slots = basis.store.now in
    let old = c.self.inside.nogood in
    let new = c.by_given.new.self in
    let step = c.by_given.ensures in
    stays_from library n choices root slots c.args.self.now old new c.self.view_is
    (stays_where library n choices root slots c.by_given.result c.args.at [] old new step.still step.step
    (step.narrows choices))
