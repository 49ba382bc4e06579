use Rattle.prop_numbers.proofs.WordLemmas.{increasing-numbers_from}
use Rattle.prop_numbers.proofs.number_set.NumberSet.of_one.Goals as goal

pub returns-clause-ordered : goal.returns-clause-ordered
returns-clause-ordered c = increasing-numbers_from _ _
