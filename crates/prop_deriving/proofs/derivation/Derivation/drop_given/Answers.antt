use Rattle.prop_procedures.specs.Kept.{stored_of}
use Rattle.prop_plans.specs.Held.{attached_of}
use Rattle.prop_deriving.proofs.StayLemmas.{stays_along}
use Rattle.prop_deriving.proofs.derivation.Derivation.drop_given.Goals as goal

pub loop-preserved : goal.loop-preserved
loop-preserved g c =
    let basis = c.args.basis.now in
    let library = stored_of g.R.Rule.value_of basis.network.now.library in
    let n = attached_of basis.network.now.cells in
    let choices = basis.choices.now in
    let root = basis.root.now in
    let slots = basis.store.now in
    stays_along library n choices root slots c.args.self.now c.loop.self c.drop_one_given.new.self c.loop.invariant
    c.drop_one_given.ensures
