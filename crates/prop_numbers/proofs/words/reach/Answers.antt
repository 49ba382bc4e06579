use Rattle.std.proofs.Common.{◌∙◌, ◌*◌, ◌-◌, ap, arith}
use Rattle.prop_numbers.specs.Sets.{set_of}
use Rattle.prop_numbers.specs.Words.{numbers_from}
use Rattle.prop_numbers.proofs.PlaceLemmas.{same_bits_from, led_from}
use Rattle.prop_numbers.proofs.words.reach.Goals as goal

pub returns-then-first-number-clause-numbers : goal.returns-then-first-number-clause-numbers
returns-then-first-number-clause-numbers c =
    same_bits_from (64 * c.args.first) c.grow.new.words.items c.args.words.now.items c.in_ok-grow.ensures.bits

pub returns-clause-numbers : goal.returns-clause-numbers
returns-clause-numbers c =
    led_from c.args.number (c.args.first - c.args.number) c.args.first c.in_ok-words.field-0.items
    c.args.words.now.items (omega (arith, c.if-first-number.false))
    (λ p. c.in_ok-words.ensures.bits p ∙ ap (λ ws. set_of (numbers_from (64 * (c.args.first - c.args.number)) ws) p)
    c.deref.ensures)
