use Rattle.std.proofs.Common.{◌≡◌, ℕ, ◌+◌, ◌<◌, List, [], ◌∷◌, false, drop, get_or, length, sym, ◌∙◌, ap, arith}
use Rattle.std.specs.Prelude.{◌==◌}
use Rattle.std.proofs.lemmas.Bool.{false≢true}
use Rattle.std.proofs.lemmas.List.{drop_more, drop_all}
use Rattle.prop_language.specs.inner.Digits.{number_after}
use Rattle.prop_language.proofs.Digits.{too_large, within}
use Rattle.prop_language.proofs.numbers.unsigned.Goals as goal

some : (digits : List ℕ) → false ≡ (length digits == 0) → 0 < length digits
some [] e = absurd (false≢true e)
some (b ∷ digits) e = omega arith

pub returns-in_err-checked_mul : goal.returns-in_err-checked_mul
returns-in_err-checked_mul c =
    let l = c.loop-byte in
    let digits = c.args.digits.now in
    c.from_residual.ensures ∙ sym (too_large _ l.number (get_or digits l.byte-index 0) digits
    (drop (l.byte-index + 1) digits)
    (ap (number_after l.number) (sym (drop_more digits l.byte-index 0 c.loop-byte-test.true)) ∙ l.invariant.rest)
    (omega arith) (omega (arith, c.in_err-checked_mul.ensures)))

pub returns-in_err-number : goal.returns-in_err-number
returns-in_err-number c =
    let l = c.loop-byte in
    let digits = c.args.digits.now in
    c.from_residual-in_err-number.ensures
    ∙ sym (too_large _ l.number (get_or digits l.byte-index 0) digits (drop (l.byte-index + 1) digits)
    (ap (number_after l.number) (sym (drop_more digits l.byte-index 0 c.loop-byte-test.true)) ∙ l.invariant.rest)
    (omega arith) (omega (arith, c.in_err-number.ensures, c.in_ok-checked_mul.ensures, c.from.ensures)))

pub returns : goal.returns
returns c = within _ c.loop-byte.number c.args.digits.now
    (ap (number_after c.loop-byte.number) (sym (drop_all c.loop-byte.byte-index c.args.digits.now (omega arith)))
    ∙ c.loop-byte.invariant.rest) (some c.args.digits.now c.if-is_empty.ensures) (omega arith)
