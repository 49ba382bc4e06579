use Rattle.std.proofs.Common.{◌∙◌, ap, arith}
use Rattle.prop_numbers.specs.Words.{has_bit}
use Rattle.prop_numbers.proofs.WordLemmas.{kept_written, has_bit-below, has_bit-all_below}
use Rattle.prop_numbers.proofs.words.cut.Goals as goal

pub returns-then-place-len-clause-bits : goal.returns-then-place-len-clause-bits
returns-then-place-len-clause-bits c p =
    let words = c.args.words.now.items in
    let written = kept_written words c.truncate.new.self.items c.deref_mut.result.now c.place_of-place.result
    c.bit_of.result c.args.bound c.truncate.ensures.items c.deref_mut.ensures.value c.place_of-place.ensures
    c.bit_of.ensures in
    c.trim.ensures.bits p ∙ ap (λ ws. has_bit ws p) written ∙ has_bit-below words c.args.bound p (omega
    (arith, c.if-place-len.true, c.len.ensures.value, c.place_of-place.ensures))

pub returns-else-place-len-clause-bits : goal.returns-else-place-len-clause-bits
returns-else-place-len-clause-bits c p =
    has_bit-all_below c.args.words.now.items c.args.bound p
    (omega (arith, c.if-place-len.false, c.len.ensures.value, c.place_of-place.ensures))
