use Rattle.std.proofs.Common.{◌≡◌, arith, bit_and, bit_or}
use Rattle.std.proofs.lemmas.Bool.Decides.{nat_tests}
use Rattle.prop_numbers.specs.Sets.{set_of}
use Rattle.prop_numbers.proofs.BitLemmas.{both_zero}
use Rattle.prop_numbers.proofs.ChangeLemmas.{off_with, unmet}
use Rattle.prop_numbers.proofs.number_set.NumberSet.meets.Goals as goal

pub returns-else-change : goal.returns-else-change
returns-else-change c f p h =
    let change = c.args.change.now in
    let none : bit_or (bit_and c.word_at.result change.first) (bit_and c.word_at-2.result change.second) ≡ 0 =
    grind (arith, nat_tests) in
    let each = both_zero (bit_and c.word_at.result change.first) (bit_and c.word_at-2.result change.second) none in
    off_with change.rest _ c.if-change.false
    (unmet (set_of c.args.self.now) change.place change.first change.second c.word_at.result c.word_at-2.result
    c.word_at.ensures c.word_at-2.ensures each.0 each.1 p h)
