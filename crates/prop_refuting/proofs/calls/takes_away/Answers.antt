use Rattle.std.proofs.Common.{◌≡◌, ◌<◌, ℤ, IsTrue, SFits, arith, get_or, length, rules, subst, sym, w64, ◌∙◌}
use Rattle.std.proofs.lemmas.Bool.{false≢true}
use Rattle.std.proofs.lemmas.Int.{to_z-of_z}
use Rattle.std.proofs.lemmas.Option.{same_Some, slice_get-get_or}
use Rattle.prop_lattice.specs.Points.{Holds, Point}
use Rattle.prop_lattice.specs.declared.info.Info.{Info}
use Rattle.prop_procedures.specs.Fitting.{kind_at}
use Rattle.prop_procedures.specs.Kept.{stored_of}
use Rattle.prop_procedures.specs.declared.shape.Kinded.{Kinded}
use Rattle.prop_cells.specs.Instances.{Instance}
use Rattle.prop_facts.specs.Facts.{IsOfKind, IsSo}
use Rattle.prop_facts.specs.declared.fact.Fact.{Fact}
use Rattle.prop_facts.specs.declared.fact.Fact.TheVariants.{Is, Other}
use Rattle.prop_plans.specs.Held.{attached_of}
use Rattle.prop_refuting.specs.Calls.{Excepts}
use Rattle.prop_refuting.proofs.ExceptLemmas.{excepts_of}
use Rattle.prop_refuting.proofs.StepLemmas.{instance_at, within_at}
use Rattle.prop_refuting.proofs.calls.takes_away.Goals as goal

pub returns-in-Some : goal.returns-in-Some
returns-in-Some g c = λ t y at_y.
    let library = stored_of g.R.Rule.value_of c.args.network.now.library in
    let d = c.args.network.now.cells in
    let args = c.args.call.args.now in
    let place = c.args.place in
    let x = c.instance-x.result.now in
    let at = instance_at d c.data.result.now c.args.call.instance x c.data.ensures c.instance-x.ensures.at in
    let P : Fact → Type 0 = λ f. Excepts library (attached_of d) x args place f in
    let Q : Instance → Type 0 = λ z. Excepts library (attached_of d) z args place c.args.fact in
    let within : place < length args = omega arith in
    let m = c.in-Other.n in
    let fits : SFits w64 m = search rules in
    let own = get_or args place c.index-call-place.result in
    let same = to_z-of_z w64 m fits in
    let Bars : Info → ℤ → Type 0 = λ i z. (p : Point) → Holds i p → IsSo (Is z) p → ⊥ in
    let Left : ℤ → Type 0 = λ z. Bars own z → IsTrue c.is_barred_by.result in
    let left = subst Left same c.is_barred_by.ensures.1 in
    let barred = subst (Bars c.in-Some.value) same (c.is_barred_by-in-Some.ensures.0 t) in
    let S : Kinded → Type 0 = λ k. IsOfKind k.kind (Other m) in
    let kind : c.kind.result ≡ kind_at d.kinds x.output =
    rw (← c.output.ensures, ← c.data-else-not-is_input.ensures) c.kind.ensures in
    subst Q (same_Some x y (sym at ∙ at_y)) (subst P (sym c.in-Other.is)
    (excepts_of library (attached_of d) x args place m own c.in-Some.value (c.in-Some.ensures x at) within
    (slice_get-get_or args place c.index-call-place.result within) (c.is_input.ensures c.if-not-is_input.false)
    (within_at library d c.requires.kept c.args.call.instance x at).output
    (subst S kind (c.is_of.ensures.0 c.if-not-is_of.false))
    (λ h. false≢true (sym c.if-is_barred_by.false ∙ left h)) barred))
