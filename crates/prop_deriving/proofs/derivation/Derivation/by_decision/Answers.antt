use Rattle.std.proofs.Common.{[], ◌≡◌, ◌∷◌, ◌<◌, ℕ, Option, IfSome, Some, arith}
use Rattle.std.proofs.Common.{length, refl, slice_get, subst, sym}
use Rattle.prop_procedures.specs.Kept.{stored_of}
use Rattle.prop_plans.specs.Held.{attached_of}
use Rattle.prop_refuting.specs.Nogoods.{Nogood}
use Rattle.prop_refuting.specs.Places.{kind_at_place}
use Rattle.prop_facts.specs.declared.fact.Fact.{Fact}
use Rattle.prop_facts.specs.declared.fact.Literal.{Literal}
use Rattle.prop_deriving.proofs.StayLemmas.{follows_clashing, stays_by_followed, stays_from}
use Rattle.prop_deriving.proofs.derivation.Derivation.by_decision.Goals as goal

-- the literal stands there as long as the nogood is the same
literal_there : (old same : Nogood) (at : ℕ) (x : Literal) → same ≡ old → Some x ≡ slice_get old.literals at
    → slice_get same.literals at ≡ Some x
literal_there old same at x e h =
    let P : Nogood → Type 0 = λ g. slice_get g.literals at ≡ Some x in subst P (sym e) (sym h)

-- the nogood of two facts about a place
abbrev both : ℕ → Fact → Fact → Nogood
both place one other = record {
  literals = record { place = place; fact = one } ∷ record { place = place; fact = other } ∷ [];
  premises = [];
}

-- such a nogood has a second literal
second_there : (o : Option Nogood) (g : Nogood) (place : ℕ) (one other : Fact) → o ≡ Some g
    → IfSome o (λ k. k ≡ both place one other) → 1 < length g.literals
second_there o g place one other e h =
    let F : Option Nogood → Type 0 = λ p. IfSome p (λ k. k ≡ both place one other) in
    let P : Nogood → Type 0 = λ k. 1 < length k.literals in
    let count : length (both place one other).literals ≡ 2 = refl in
    let two : 1 < length (both place one other).literals = omega (arith, count) in
    subst P (sym (subst F e h)) two

pub by_nogood-requires-clause-at : goal.by_nogood-requires-clause-at
by_nogood-requires-clause-at g c =
    let P : Nogood → Type 0 = λ k. c.args.at < length k.literals in
    subst P (sym c.self.view_is) c.in-Some.ensures.within

pub by_nogood-requires-clause-which : goal.by_nogood-requires-clause-which
by_nogood-requires-clause-which g c =
    second_there c.in_ok-other.field-0 c.in-Some-2.other c.in-Some.literal.place c.in-Some-decided_against.pair.one
    c.in-Some-decided_against.pair.other c.in-Some-2.is c.in_ok-other.ensures.facts

pub returns : goal.returns
returns g c =
    let basis = c.args.basis.now in
    let library = stored_of g.R.Rule.value_of basis.network.now.library in
    let n = attached_of basis.network.now.cells in
    let choices = basis.choices.now in
    let root = basis.root.now in
    let slots = basis.store.now in
    let old = c.self.inside.nogood in
    let new = c.by_nogood.new.self in
    let step = c.by_nogood.ensures in
    let x = c.in-Some.literal in
    let pair = c.in-Some-decided_against.pair in
    let other = c.in-Some-2.other in
    let e = literal_there c.args.self.now old c.args.at x c.self.view_is c.in-Some.ensures.literal in
    let f = follows_clashing library n choices root slots c.in_ok-other.field-0 other other
    (both x.place pair.one pair.other).literals c.in-Some-2.is refl c.in_ok-other.ensures.facts
    c.in_ok-other.ensures.never in
    stays_from library n choices root slots c.args.self.now old new c.self.view_is
    (stays_by_followed library n choices root slots c.by_nogood.result old other new f step.err step.still
    (λ t. (step.step t x e).premises)
    (step.resolves library n choices x e (sym {b = kind_at_place n choices x.place} c.in-Some-kind.ensures)))
