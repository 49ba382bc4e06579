use Rattle.prop_procedures.specs.Kept.{stored_of}
use Rattle.prop_plans.specs.Held.{attached_of}
use Rattle.prop_deriving.proofs.StayLemmas.{stays_along}
use Rattle.prop_deriving.proofs.learning.Learning.resolve.Goals as goal

pub returns-in_err-find_makers : goal.returns-in_err-find_makers
returns-in_err-find_makers g c =
    let basis = c.args.basis.now in
    let library = stored_of g.R.Rule.value_of basis.network.now.library in
    let n = attached_of basis.network.now.cells in
    let choices = basis.choices.now in
    let root = basis.root.now in
    let slots = basis.store.now in
    let made = c.find_makers.new.self in
    stays_along library n choices root slots c.args.self.now c.explain.new.self made c.explain.ensures
    (stays_along library n choices root slots c.explain.new.self c.drop_given.new.self made c.drop_given.ensures
    (c.find_makers.ensures library n choices root slots))

pub returns : goal.returns
returns g c =
    let basis = c.args.basis.now in
    let library = stored_of g.R.Rule.value_of basis.network.now.library in
    let n = attached_of basis.network.now.cells in
    let choices = basis.choices.now in
    let root = basis.root.now in
    let slots = basis.store.now in
    let made = c.find_makers.new.self in
    stays_along library n choices root slots c.args.self.now c.explain.new.self made c.explain.ensures
    (stays_along library n choices root slots c.explain.new.self c.drop_given.new.self made c.drop_given.ensures
    (c.find_makers.ensures library n choices root slots))
