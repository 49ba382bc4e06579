use Rattle.std.proofs.Common.{arith}
use Rattle.prop_numbers.proofs.WordLemmas.{has_bit-cleared, has_bit-not_there}
use Rattle.prop_numbers.proofs.bits.clear.Goals as goal

pub returns-then-place-words-clause-bits : goal.returns-then-place-words-clause-bits
returns-then-place-words-clause-bits c p =
    rw (c.place_of-place.ensures, c.bit_of.ensures) (has_bit-cleared c.args.words.now c.args.number p (omega
    (arith, c.if-place-words.true, c.place_of-place.ensures)))

pub returns-else-place-words-clause-bits : goal.returns-else-place-words-clause-bits
returns-else-place-words-clause-bits c p = has_bit-not_there c.args.words.now c.args.number p (omega
    (arith, c.if-place-words.false, c.place_of-place.ensures))
