use Rattle.std.proofs.Common.{◌*◌, ◌∙◌, refl, sym}
use Rattle.prop_numbers.proofs.WordLemmas.{numbers_from-none, numbers_from-nothing}
use Rattle.prop_numbers.proofs.numbers.Numbers.new.Goals as goal

pub returns-in-None : goal.returns-in-None
returns-in-None c = numbers_from-none 0 0 c.args.words.now refl c.in-None.ensures.cases
    ∙ sym (numbers_from-nothing (64 * c.args.first) c.args.words.now c.in-None.ensures.cases)
