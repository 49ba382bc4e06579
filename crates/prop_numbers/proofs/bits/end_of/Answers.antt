use Rattle.std.proofs.Common.{◌-◌, arith, length}
use Rattle.prop_numbers.proofs.WordLemmas.{end_is, within_words}
use Rattle.prop_numbers.proofs.bits.end_of.Goals as goal

pub overflow_mul-result : goal.overflow_mul-result
overflow_mul-result c = omega (arith, c.requires.in_range)

pub returns-in-Some : goal.returns-in-Some
returns-in-Some c =
    let item = c.in-Some.ensures.item in
    let words = c.args.words.now in
    let end = end_is words (length words - 1) c.in-Some.word.now c.requires.trimmed (omega (arith, item.3.0))
    (item.3.1 0) (omega arith) in
    record { bound = omega (arith, c.requires.in_range); above = end.above; last = end.last }

pub returns-in-None-clause-above : goal.returns-in-None-clause-above
returns-in-None-clause-above c p h = omega (arith, c.in-None.ensures.item, within_words c.args.words.now p h)
