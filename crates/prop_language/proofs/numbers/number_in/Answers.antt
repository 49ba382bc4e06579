use Rattle.std.proofs.Common.{◌∙◌, ap, arith, pos, negsuc, w64}
use Rattle.std.specs.Bool.{then_some}
use Rattle.std.specs.Option.{option_and_then}
use Rattle.std.proofs.lemmas.Int.{ints, to_z-of_z}
use Rattle.prop_language.specs.inner.Digits.{number_read}
use Rattle.prop_language.proofs.Digits.{inside, none_narrower, some_narrower, in_a_word, both_pass, first_fails}
use Rattle.prop_language.proofs.Digits.{number_is}
use Rattle.prop_language.proofs.numbers.number_in.Goals as goal
use Rattle.prop_language.proofs.numbers.number_in.Goals.{then-low-number, else-low-number}

pub returns-in_err-number : goal.returns-in_err-number
returns-in_err-number c =
    c.from_residual.ensures ∙ none_narrower (negsuc 9223372036854775807) c.args.low c.args.high
    (pos 9223372036854775807) (number_read c.args.word.now) c.in_err-number.ensures (omega (arith, ints))
    (omega (arith, ints)) ∙ ap (option_and_then (inside c.args.low c.args.high)) (number_is c.args.word.now)

pub returns : goal.returns
returns c =
    let low = to_z-of_z w64 c.args.low c.ranges.low in
    let high = to_z-of_z w64 c.args.high c.ranges.high in
    let number = to_z-of_z w64 c.in_ok-number.number
    (in_a_word c.in_ok-number.number (number_read c.args.word.now) c.in_ok-number.ensures) in
    c.then_some.ensures ∙ ap (then_some c.if-low-number.then_some) number
    ∙ some_narrower (negsuc 9223372036854775807) c.args.low c.args.high (pos 9223372036854775807)
    c.in_ok-number.number (number_read c.args.word.now) c.if-low-number.then_some c.in_ok-number.ensures
    (elim c.if-low-number.branch [
      | then-low-number w ↦ both_pass _ _ _ _ _ _ _ low number high w.if-low-number.true w.then_some-is
      | else-low-number w ↦ first_fails _ _ _ _ _ _ low number w.if-low-number.false
          (w.then_some-is ∙ w.if-low-number.false)
    ]) ∙ ap (option_and_then (inside c.args.low c.args.high)) (number_is c.args.word.now)
