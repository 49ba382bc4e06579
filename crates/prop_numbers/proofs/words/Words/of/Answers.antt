use Rattle.std.proofs.Common.{◌∙◌}
use Rattle.prop_numbers.proofs.WordLemmas.{set_of-numbers_of, increasing-numbers_from}
use Rattle.prop_numbers.proofs.words.Words.of.Goals as goal

pub returns-clause-has : goal.returns-clause-has
returns-clause-has c p = set_of-numbers_of c.trim.new.words.items p ∙ c.trim.ensures.bits p

pub returns-clause-ordered : goal.returns-clause-ordered
returns-clause-ordered c = increasing-numbers_from 0 c.trim.new.words.items
