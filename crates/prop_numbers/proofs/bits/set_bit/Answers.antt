use Rattle.prop_numbers.proofs.WordLemmas.{has_bit-added}
use Rattle.prop_numbers.proofs.bits.set_bit.Goals as goal

pub returns-clause-bits : goal.returns-clause-bits
returns-clause-bits c p = rw (c.place_of.ensures, c.bit_of.ensures)
    (has_bit-added c.args.words.now c.args.number p c.requires)
