use Rattle.std.proofs.Common.{List, ap, set, subst, sym, ◌∙◌}
use Rattle.std.proofs.lemmas.List.{set-get_or, set-set}
use Rattle.prop_lattice.specs.declared.info.Info.{Info}
use Rattle.prop_procedures.specs.Kept.{stored_of}
use Rattle.prop_plans.specs.Held.{attached_of}
use Rattle.prop_refuting.specs.Calls.{Tells}
use Rattle.prop_refuting.proofs.calls.replace_argument.Goals as goal

pub returns-clause-still : goal.returns-clause-still
returns-clause-still g c = set-set c.args.args.now c.args.place c.args.info c.index-args-place.result
    ∙ (ap (λ v. set c.args.args.now c.args.place v) c.index-args-place.is
    ∙ set-get_or c.args.args.now c.args.place c.index-args-place.result)

pub returns-clause-tells : goal.returns-clause-tells
returns-clause-tells g c = λ x at t.
    let library = stored_of g.R.Rule.value_of c.args.network.now.library in
    let n = attached_of c.args.network.now.cells in
    let P : List Info → Type 0 = λ l. Tells library n x l c.args.claim.rest c.args.claim.fact in
    subst P (sym (returns-clause-still g c)) t
