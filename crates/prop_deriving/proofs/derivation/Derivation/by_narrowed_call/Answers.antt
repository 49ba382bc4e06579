use Rattle.std.proofs.Common.{◌∙◌, arith}
use Rattle.prop_procedures.specs.Kept.{stored_of}
use Rattle.prop_plans.specs.Held.{attached_of}
use Rattle.prop_deriving.proofs.StayLemmas.{some_at, stays_by, stays_from, stays_narrowed}
use Rattle.prop_deriving.proofs.derivation.Derivation.by_narrowed_call.Goals as goal

pub returns : goal.returns
returns g c =
    let basis = c.args.basis.now in
    let library = stored_of g.R.Rule.value_of basis.network.now.library in
    let n = attached_of basis.network.now.cells in
    let choices = basis.choices.now in
    let root = basis.root.now in
    let slots = basis.store.now in
    let old = c.self.inside.nogood in
    let new = c.by_narrowed_call.new.self in
    let step = c.by_narrowed_call.ensures in
    let x = some_at basis.network.now.cells.instances c.args.instance (omega arith) in
    stays_from library n choices root slots c.args.self.now old new (c.self.view_is ∙ c.count_calls.ensures)
    (stays_by library n choices root slots c.by_narrowed_call.result old new step.err step.still
    (λ t. stays_narrowed library n choices root slots old new (step.narrows choices) (step.step t x.0 x.1).premises))
