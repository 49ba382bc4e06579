use Rattle.std.proofs.Common.{◌≡◌, ℕ, List, ◌∷◌, [], ◌++◌, Bool, true, cond, Bor, None, refl, ap, sym, ◌∙◌, rules}
use Rattle.std.specs.Prelude.{not}
use Rattle.std.proofs.lemmas.List.{map-append}
use Rattle.std.proofs.lemmas.Result.{err_from_is_err_and}
use Rattle.prop_language.specs.Tokens.{tokens}
use Rattle.prop_language.specs.inner.Forms.{pairs}
use Rattle.prop_language.specs.Said.{pairs_of}
use Rattle.prop_language.proofs.Forming.{no_pair, none_remain, one_more_remains, no_more_remain}
use Rattle.prop_language.proofs.forms.pairs.Goals as goal

-- one pair more
pushed : (items new : List (Bor (List ℕ) × Bor (List ℕ))) (p : Bor (List ℕ) × Bor (List ℕ)) (b : Bool) → true ≡ b
    → new ≡ cond b (items ++ p ∷ []) items → pairs_of new ≡ pairs_of items ++ (p.0.now, p.1.now) ∷ []
pushed items new p b e f =
    ap pairs_of (f ∙ ap (λ b. cond b (items ++ p ∷ []) items) (sym e))
    ∙ map-append (λ (p : Bor (List ℕ) × Bor (List ℕ)). (p.0.now, p.1.now)) items (p ∷ [])

pub returns-in_err-pair-clause-err : goal.returns-in_err-pair-clause-err
returns-in_err-pair-clause-err c =
    let p = err_from_is_err_and c.from_residual.result c.from_residual.ensures.1 in
    let left = tokens c.loop-found.left.now in
    let h = c.in_err-pair.ensures.err in
    rw (p.1, p.2) (none_remain (pairs_of c.loop-found.found.items) left (tokens c.args.bytes.now) _
    c.loop-found.invariant (h.0, no_pair left h.1))

pub loop-found-preserved : goal.loop-found-preserved
loop-found-preserved c =
    let found = rw c.in-Some-Semicolon-default.field-0-0-is at c.in-Some-Semicolon-default.ensures.found in
    let next = pushed _ _ c.in_ok-pair.pair _ (sym (c.is_err.ensures.negation ∙ ap not c.if-is_err.false))
    c.push.ensures.items in
    one_more_remains (pairs_of c.loop-found.found.items) _ (tokens c.loop-found.left.now) _ _ (tokens c.args.bytes.now)
    _ _ (c.in_ok-pair.ensures.ok, next) found c.loop-found.invariant

pub returns-in-None-clause-ok : goal.returns-in-None-clause-ok
returns-in-None-clause-ok c =
    let next = pushed _ _ c.in_ok-pair.pair _ (sym (c.is_err.ensures.negation ∙ ap not c.if-is_err.false))
    c.push.ensures.items in
    no_more_remain (pairs_of c.loop-found.found.items) _ (tokens c.loop-found.left.now) _ (tokens c.args.bytes.now) _ _
    (c.in_ok-pair.ensures.ok, next) c.in-None.ensures.found c.loop-found.invariant

pub returns-in_default : goal.returns-in_default
returns-in_default c =
    let left = tokens c.loop-found.left.now in
    let none : pairs left ≡ None = search rules in
    record {
      ok = tt;
      err = none_remain (pairs_of c.loop-found.found.items) left (tokens c.args.bytes.now) _ c.loop-found.invariant
          (refl, none);
    }
