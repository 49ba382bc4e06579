use Rattle.prop_procedures.specs.Kept.{stored_of}
use Rattle.prop_plans.specs.Held.{attached_of}
use Rattle.prop_deriving.proofs.StayLemmas.{follows_along, follows_some}
use Rattle.prop_deriving.proofs.learning.Learning.of_clash.Goals as goal

pub returns : goal.returns
returns g c =
    let basis = c.args.basis.now in
    let library = stored_of g.R.Rule.value_of basis.network.now.library in
    let n = attached_of basis.network.now.cells in
    let choices = basis.choices.now in
    let root = basis.root.now in
    let slots = basis.store.now in
    let derivation = c.in-Some-2.derivation in
    let first = follows_some c.in_ok-derivation.field-0 derivation c.in-Some-2.is c.in_ok-derivation.ensures in
    follows_along library n choices root slots c.explain_unsaid.new.self c.in_ok-begun.field-0
    (follows_along library n choices root slots derivation c.explain_unsaid.new.self
    (first library n choices root slots) c.explain_unsaid.ensures)
    (c.in_ok-begun.ensures library n choices root slots)
