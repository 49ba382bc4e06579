use Rattle.std.proofs.Common.{◌∙◌, ap}
use Rattle.prop_numbers.specs.Words.{has_bit}
use Rattle.prop_numbers.proofs.WordLemmas.{if_ok, has_bit-blank}
use Rattle.prop_numbers.proofs.words.blank.Goals as goal

pub returns-clause-bits : goal.returns-clause-bits
returns-clause-bits c = if_ok c.from_elem.result (λ w h p. ap (λ ws. has_bit ws p) (h (λ y e. e))
    ∙ has_bit-blank c.div_ceil.result p) c.from_elem.ensures.items_if_clones_equal

pub returns-then-count-clause-bits : goal.returns-then-count-clause-bits
returns-then-count-clause-bits c p = ap (λ ws. has_bit ws p) c.from_buf.ensures.items ∙ has_bit-blank 2 p
