use Rattle.std.proofs.Common.{◌∙◌, ap, ◌*◌, ◌||◌, length}
use Rattle.prop_numbers.specs.Sets.{set_of}
use Rattle.prop_numbers.specs.Words.{has_bit, numbers_from}
use Rattle.prop_numbers.proofs.WordLemmas.{refilled, has_bit-blank}
use Rattle.prop_numbers.proofs.words.led.Goals as goal

pub returns-clause-bits : goal.returns-clause-bits
returns-clause-bits c p =
    let blank = c.in_ok-longer.ensures.items_if_clones_equal (λ y e. e) in
    rw (refilled c.in_ok-longer.longer.items c.unite.new.words
    (c.unite.ensures.len ∙ ap length c.deref_mut.ensures.value))
    (c.unite.ensures.bits p ∙ ap (λ ws. has_bit ws p || set_of (numbers_from (64 * c.args.count) c.args.words.now) p)
    (c.deref_mut.ensures.value ∙ blank)
    ∙ ap (λ b. b || set_of (numbers_from (64 * c.args.count) c.args.words.now) p) (has_bit-blank _ p))
