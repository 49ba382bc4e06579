use Rattle.prop_procedures.specs.Kept.{stored_of}
use Rattle.prop_plans.specs.Held.{attached_of}
use Rattle.prop_refuting.proofs.StepLemmas.{tells_of, within_at}
use Rattle.prop_refuting.proofs.calls.says.Goals as goal

pub returns-in-Some : goal.returns-in-Some
returns-in-Some g c = λ t x at.
    let library = stored_of g.R.Rule.value_of c.args.network.now.library in
    let d = c.args.network.now.cells in
    tells_of library (attached_of d) x c.args.args.now c.in-Some.value c.narrowed.result c.args.claim.rest
    c.args.claim.fact (c.in-Some.ensures x at)
    (within_at library d c.requires.kept c.args.claim.instance x at).output c.narrowed.ensures
    (c.follows_from.ensures.0 t)
