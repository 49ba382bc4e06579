use Rattle.std.proofs.Common.{◌∙◌, ◌*◌, ap, arith, length}
use Rattle.prop_numbers.specs.Words.{has_bit}
use Rattle.prop_numbers.proofs.OneLemmas.{one_form, beside_blank}
use Rattle.prop_numbers.proofs.PlaceLemmas.{same_bits_from}
use Rattle.prop_numbers.proofs.words.Words.of_one.Goals as goal

pub invariant_of-result : goal.invariant_of-result
invariant_of-result c =
    let made = c.from_buf-words.ensures.items in
    one_form c.args.one.place c.args.one.word c.trim.new.words.items c.requires c.trim.ensures.trimmed
    (omega (arith, c.trim.ensures.len, ap length made))
    (λ p. c.trim.ensures.bits p ∙ ap (λ ws. has_bit ws p) made)

pub returns : goal.returns
returns c =
    same_bits_from (64 * c.args.one.place) c.trim.new.words.items _
    (λ p. c.trim.ensures.bits p ∙ ap (λ ws. has_bit ws p) c.from_buf-words.ensures.items
    ∙ beside_blank c.args.one.word p)
