use Rattle.std.proofs.Common.{◌≡◌, ◌≢◌, ◌∙◌, Bool, false, List, Some, ap, refl, slice_get, subst}
use Rattle.prop_learned.proofs.store.Store.forget.Goals as goal

pub returns-in_err-let_go-clause-made : goal.returns-in_err-let_go-clause-made
returns-in_err-let_go-clause-made c = λ k e has by.
    let marked = c.in_ok-made.ensures k e has by in
    let number = c.loop-number.number in
    let bare : slice_get c.in_ok-made.made.items number ≡ Some false =
    subst (λ (xs : List Bool). slice_get xs number ≡ Some false) c.deref.ensures.value
    (c.if-not-is_marked.ensures refl) in
    let other : k ≢ number = λ same. marked (ap (slice_get c.in_ok-made.made.items) same ∙ bare) in
    c.in_err-let_go.ensures.others k other ∙ c.loop-number.invariant.made k marked

pub returns-clause-made : goal.returns-clause-made
returns-clause-made c = λ k e has by. c.loop-number.invariant.made k (c.in_ok-made.ensures k e has by)
