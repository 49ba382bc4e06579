use Rattle.std.proofs.Common.{◌≡◌, ◌∙◌, ℕ, ◌-◌, ◌^◌, ◌≤◌, ◌<◌, length, List, arith, get_or, sym, subst, map}
use Rattle.std.proofs.lemmas.Grind.{common_steps}
use Rattle.std.proofs.lemmas.List.{get_or_default}
use Rattle.std.proofs.lemmas.List.Elements.{All-take, All-append, All-drop, All-set, All-map}
use Rattle.prop_learned.specs.Weighing.{Weighed, lowered, weight_of, AreWeights}
use Rattle.prop_learned.proofs.WeighingLemmas.{order_added}
use Rattle.prop_learned.proofs.weights.Weights.add.Goals as goal

pub invariant_of-self : goal.invariant_of-self
invariant_of-self c =
    let P : ℕ → Type 0 = λ n. 1 ≤ n in
    let items = c.self.inside.each.items in
    let weight : 1 ≤ c.saturating_add-weight.result = omega arith in
    let each : List ℕ = c.deref_mut.result.now in
    let low : AreWeights (map lowered each) = All-map P lowered each (λ k d h. omega arith) in
    All-take P c.self.inside.each.len _ (All-append P c.lower.new.each _
    (subst AreWeights (sym c.lower.ensures) low)
    (All-drop P _ _ (All-set P items c.args.place _ weight c.self.invariant)))

pub returns-then-weight-gt-MOST-clause-added : goal.returns-then-weight-gt-MOST-clause-added
returns-then-weight-gt-MOST-clause-added c = grind (arith, common_steps)

pub returns-then-weight-gt-MOST-clause-order : goal.returns-then-weight-gt-MOST-clause-order
returns-then-weight-gt-MOST-clause-order c = λ a b n h.
    let items = c.self.inside.each.items in
    let p = c.args.place in
    let old = c.args.self.now in
    let within : p < length items = omega (arith, c.self.inside.each.ok) in
    let here : p < length old.each = subst (λ (w : Weighed). p < length w.each) c.self.view_is within in
    let read : get_or items p 1 ≡ c.index.result.now =
    get_or_default items p 1 c.index.result.now within ∙ sym c.index.ensures in
    let fits : c.index.result.now ≤ 2 ^ 64 - 1 = omega arith in
    let weight : weight_of old p ≤ 2 ^ 64 - 1 =
    subst (λ (w : Weighed). weight_of w p ≤ 2 ^ 64 - 1) c.self.view_is (omega (arith, read, fits)) in
    subst (λ (w : Weighed). weight_of w a ≤ weight_of w b) (sym (returns-then-weight-gt-MOST-clause-added c))
    (order_added old p a b here weight n h)
