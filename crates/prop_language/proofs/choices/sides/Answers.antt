use Rattle.std.proofs.Common.{◌≡◌, ◌≢◌, List, ◌∷◌, [], ◌++◌, Bool, true, cond, map, refl, ap, sym, ◌∙◌, inr}
use Rattle.std.specs.Prelude.{not}
use Rattle.std.proofs.lemmas.Bool.{false≢true}
use Rattle.std.proofs.lemmas.List.{map-append}
use Rattle.std.proofs.lemmas.Result.{err_from_is_err_and}
use Rattle.prop_language.specs.Tokens.{tokens}
use Rattle.prop_language.specs.Said.{value_of}
use Rattle.prop_language.specs.declared.command.Value.{Value}
use Rattle.prop_language.proofs.Choosing.{no_next_side, last_side, next_side, behind_or, none_remain, value_refused}
use Rattle.prop_language.proofs.Choosing.{no_more_remain, one_more_remains}
use Rattle.prop_language.proofs.choices.sides.Goals as goal

-- one value more
pushed : (items new : List Value) (v : Value) (b : Bool) → true ≡ b → new ≡ cond b (items ++ v ∷ []) items
    → map value_of new ≡ map value_of items ++ value_of v ∷ []
pushed items new v b e f =
    ap (map value_of) (f ∙ ap (λ b. cond b (items ++ v ∷ []) items) (sym e)) ∙ map-append value_of items (v ∷ [])

pub returns-in_err-side-clause-err : goal.returns-in_err-side-clause-err
returns-in_err-side-clause-err c =
    let p = err_from_is_err_and c.from_residual.result c.from_residual.ensures.1 in
    rw (p.1, p.2) (value_refused (map value_of c.loop-found.found.items) (tokens c.loop-found.left.now)
    (tokens c.args.bytes.now) _ c.loop-found.invariant c.in_err-side.ensures.err)

pub returns-then-is_end-clause-ok : goal.returns-then-is_end-clause-ok
returns-then-is_end-clause-ok c =
    let left = tokens c.loop-found.left.now in
    let next = pushed _ _ c.in_ok-side.side _ (sym (c.is_err.ensures.negation ∙ ap not c.if-is_err.false))
    c.push.ensures.items in
    let last = last_side left (tokens c.in_ok-side.rest.now) _ c.in_ok-side.ensures.ok
    (c.is_end.ensures.0 c.if-is_end.true) in
    no_more_remain (map value_of c.loop-found.found.items) _ left (tokens c.args.bytes.now) _ c.loop-found.invariant
    next last

pub returns-in_default-clause-err : goal.returns-in_default-clause-err
returns-in_default-clause-err c =
    let left = tokens c.loop-found.left.now in
    let rest = tokens c.in_ok-side.rest.now in
    let more : rest ≢ [] = λ e. false≢true (sym c.if-is_end.false ∙ c.is_end.ensures.1 e) in
    let none = no_next_side left rest (value_of c.in_ok-side.side) c.in_ok-side.ensures.ok more
    (sym c.in_default.ensures.found) in
    inr (
      refl,
      none_remain (map value_of c.loop-found.found.items) left (tokens c.args.bytes.now) c.loop-found.invariant
          none,
    )

pub loop-found-preserved : goal.loop-found-preserved
loop-found-preserved c =
    let left = tokens c.loop-found.left.now in
    let rest = tokens c.in_ok-side.rest.now in
    let behind = tokens c.in-Some.behind.now in
    let pushed = pushed _ _ c.in_ok-side.side _ (sym (c.is_err.ensures.negation ∙ ap not c.if-is_err.false))
    c.push.ensures.items in
    let next = next_side left rest behind _ c.in_ok-side.ensures.ok
    (behind_or rest _ behind refl c.in-Some.ensures.found) in
    one_more_remains (map value_of c.loop-found.found.items) _ left behind (tokens c.args.bytes.now) _
    c.loop-found.invariant pushed next
