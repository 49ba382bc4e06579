use Rattle.std.proofs.Common.{◌∙◌, ◌*◌, ◌≡◌, sym, arith, length}
use Rattle.std.proofs.lemmas.Bool.Decides.{nat_tests}
use Rattle.prop_numbers.proofs.WordLemmas.{numbers_from-nothing}
use Rattle.prop_numbers.proofs.words.start.Goals as goal

pub returns-then-is_empty-clause-numbers : goal.returns-then-is_empty-clause-numbers
returns-then-is_empty-clause-numbers c =
    let tested = sym c.is_empty.ensures ∙ c.if-is_empty.true in
    let none : length c.args.words.now ≡ 0 = grind (arith, nat_tests) in
    numbers_from-nothing (64 * c.args.number) c.args.words.now none
    ∙ sym (numbers_from-nothing (64 * c.args.first) c.args.words.now none)
