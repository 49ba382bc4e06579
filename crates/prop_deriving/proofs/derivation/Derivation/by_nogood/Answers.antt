use Rattle.std.proofs.Common.{◌≡◌, ◌<◌, ℕ, Some, length, slice_get, subst, sym}
use Rattle.prop_procedures.specs.Kept.{stored_of}
use Rattle.prop_plans.specs.Held.{attached_of}
use Rattle.prop_refuting.specs.Nogoods.{Nogood}
use Rattle.prop_refuting.specs.Places.{kind_at_place}
use Rattle.prop_facts.specs.declared.fact.Literal.{Literal}
use Rattle.prop_deriving.proofs.StayLemmas.{stays_by_kept, stays_from}
use Rattle.prop_deriving.proofs.derivation.Derivation.by_nogood.Goals as goal

-- the literal stands there as long as the nogood is the same
literal_there : (old same : Nogood) (at : ℕ) (x : Literal) → same ≡ old → Some x ≡ slice_get old.literals at
    → slice_get same.literals at ≡ Some x
literal_there old same at x e h =
    let P : Nogood → Type 0 = λ g. slice_get g.literals at ≡ Some x in subst P (sym e) (sym h)

pub by_nogood-requires-clause-at : goal.by_nogood-requires-clause-at
by_nogood-requires-clause-at g c =
    let P : Nogood → Type 0 = λ k. c.args.at < length k.literals in
    subst P (sym c.self.view_is) c.in-Some-literal.ensures.within

pub returns : goal.returns
returns g c =
    let basis = c.args.basis.now in
    let library = stored_of g.R.Rule.value_of basis.network.now.library in
    let n = attached_of basis.network.now.cells in
    let choices = basis.choices.now in
    let root = basis.root.now in
    let slots = basis.store.now in
    let old = c.self.inside.nogood in
    let new = c.by_nogood.new.self in
    let step = c.by_nogood.ensures in
    let x = c.in-Some-literal.literal in
    let e = literal_there c.args.self.now old c.args.at x c.self.view_is c.in-Some-literal.ensures.literal in
    stays_from library n choices root slots c.args.self.now old new c.self.view_is
    (stays_by_kept library n choices root slots c.by_nogood.result c.args.number old c.in-Some.other.now new
    c.in-Some.ensures step.err step.still (λ t. (step.step t x e).premises)
    (step.resolves library n choices x e (sym {b = kind_at_place n choices x.place} c.in-Some-kind.ensures)))
