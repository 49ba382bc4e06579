use Rattle.std.proofs.Common.{◌≡◌, ◌∷◌, ◌+ℤ◌, OnOk, SFits, Some, ap, pos, rules, slice_get, sym, w64, ◌∙◌}
use Rattle.std.proofs.lemmas.Int.{to_z-of_z}
use Rattle.prop_facts.specs.declared.fact.Fact.TheVariants.{AtLeast, AtMost}
use Rattle.prop_facts.specs.declared.fact.Literal.{Literal}
use Rattle.prop_refuting.specs.Nogoods.{Narrows, Replaces}
use Rattle.prop_refuting.specs.Steps.{holes_at}
use Rattle.prop_refuting.proofs.MeetLemmas.{ok_or_same, ok_step, read_at, read_is, same_narrows}
use Rattle.prop_refuting.proofs.StepLemmas.{at_least_by, at_most_by, by_holes_narrow}
use Rattle.prop_refuting.proofs.nogood.Nogood.by_holes.Goals as goal

pub returns-in-Some-clause-step : goal.returns-in-Some-clause-step
returns-in-Some-clause-step c = λ ok x e.
    let old = c.args.self.now in
    let new = c.replace_by_holes.new.self in
    let from = c.args.from in
    let count = c.in-Some.count in
    let fits : SFits w64 c.in-AtLeast.n = search rules in
    let from_fits : SFits w64 from = c.ranges.from in
    let gap = simp to_z-of_z at c.in-Some.ensures.gap in
    let read = c.index-literals-at.result in
    let is_x = read_is old.literals c.literals.result.now c.args.at x read c.literals.ensures
    c.index-literals-at.is e in
    let Step : Type 0 = (y : Literal) → slice_get old.literals c.args.at ≡ Some y → Replaces old c.args.at
    (record { place = y.place; fact = AtLeast from } ∷ holes_at y.place from count) new in
    let told : OnOk c.replace_by_holes.result Step = simp to_z-of_z at c.replace_by_holes.ensures.step in
    at_least_by old new c.args.at x c.in-AtLeast.n from count
    (ap (λ (l : Literal). l.fact) (sym is_x) ∙ c.in-AtLeast.is) gap
    (ok_step c.replace_by_holes.result _ Step ok told x e)

pub returns-in-Some-clause-narrows : goal.returns-in-Some-clause-narrows
returns-in-Some-clause-narrows c = λ library n choices.
    let old = c.args.self.now in
    let new = c.replace_by_holes.new.self in
    let from = c.args.from in
    let count = c.in-Some.count in
    let fits : SFits w64 c.in-AtLeast.n = search rules in
    let from_fits : SFits w64 from = c.ranges.from in
    let gap = simp to_z-of_z at c.in-Some.ensures.gap in
    let x = c.index-literals-at.result in
    let here = read_at old.literals c.literals.result.now c.args.at x c.literals.ensures c.index-literals-at.is
    c.requires.at in
    let Step : Type 0 = (y : Literal) → slice_get old.literals c.args.at ≡ Some y → Replaces old c.args.at
    (record { place = y.place; fact = AtLeast from } ∷ holes_at y.place from count) new in
    let told : OnOk c.replace_by_holes.result Step = simp to_z-of_z at c.replace_by_holes.ensures.step in
    ok_or_same c.replace_by_holes.result (new ≡ old) Step (Narrows library n choices old new)
    c.replace_by_holes.ensures.err told (same_narrows library n choices old new)
    (λ step. by_holes_narrow library n choices old new c.args.at x from here
    (at_least_by old new c.args.at x c.in-AtLeast.n from count c.in-AtLeast.is gap (step x here)))

pub returns-in-Some-gap-clause-step : goal.returns-in-Some-gap-clause-step
returns-in-Some-gap-clause-step c = λ ok x e.
    let old = c.args.self.now in
    let new = c.replace_by_holes-in-Some-gap.new.self in
    let from = c.args.from in
    let m = c.in-AtMost.n in
    let count = c.in-Some-gap.count in
    let fits : SFits w64 m = search rules in
    let from_fits : SFits w64 from = c.ranges.from in
    let gap = simp to_z-of_z at c.in-Some-gap.ensures.gap in
    let read = c.index-literals-at.result in
    let is_x = read_is old.literals c.literals.result.now c.args.at x read c.literals.ensures
    c.index-literals-at.is e in
    let Step : Type 0 = (y : Literal) → slice_get old.literals c.args.at ≡ Some y → Replaces old c.args.at
    (record { place = y.place; fact = AtMost from } ∷ holes_at y.place (m +ℤ pos 1) count) new in
    let next : SFits w64 (m +ℤ pos 1) = search rules in
    let told : OnOk c.replace_by_holes-in-Some-gap.result Step =
    simp to_z-of_z at c.replace_by_holes-in-Some-gap.ensures.step in
    at_most_by old new c.args.at x m from count (ap (λ (l : Literal). l.fact) (sym is_x) ∙ c.in-AtMost.is)
    gap
    (ok_step c.replace_by_holes-in-Some-gap.result _ Step ok told x e)

pub returns-in-Some-gap-clause-narrows : goal.returns-in-Some-gap-clause-narrows
returns-in-Some-gap-clause-narrows c = λ library n choices.
    let old = c.args.self.now in
    let new = c.replace_by_holes-in-Some-gap.new.self in
    let from = c.args.from in
    let m = c.in-AtMost.n in
    let count = c.in-Some-gap.count in
    let fits : SFits w64 m = search rules in
    let from_fits : SFits w64 from = c.ranges.from in
    let gap = simp to_z-of_z at c.in-Some-gap.ensures.gap in
    let x = c.index-literals-at.result in
    let here = read_at old.literals c.literals.result.now c.args.at x c.literals.ensures c.index-literals-at.is
    c.requires.at in
    let Step : Type 0 = (y : Literal) → slice_get old.literals c.args.at ≡ Some y → Replaces old c.args.at
    (record { place = y.place; fact = AtMost from } ∷ holes_at y.place (m +ℤ pos 1) count) new in
    let next : SFits w64 (m +ℤ pos 1) = search rules in
    let told : OnOk c.replace_by_holes-in-Some-gap.result Step =
    simp to_z-of_z at c.replace_by_holes-in-Some-gap.ensures.step in
    ok_or_same c.replace_by_holes-in-Some-gap.result (new ≡ old) Step (Narrows library n choices old new)
    c.replace_by_holes-in-Some-gap.ensures.err told
    (same_narrows library n choices old new)
    (λ step. by_holes_narrow library n choices old new c.args.at x from here
    (at_most_by old new c.args.at x m from count c.in-AtMost.is gap (step x here)))
