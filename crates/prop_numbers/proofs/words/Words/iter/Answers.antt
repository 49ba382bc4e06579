use Rattle.std.proofs.Common.{◌*◌, arith}
use Rattle.prop_numbers.proofs.WordLemmas.{increasing-numbers_from, few_numbers}
use Rattle.prop_numbers.proofs.words.Words.iter.Goals as goal

pub returns-clause-ordered : goal.returns-clause-ordered
returns-clause-ordered c = rw (← c.self.view_is)
    (increasing-numbers_from (64 * c.self.inside.first) c.self.inside.words.items)

pub returns-clause-few : goal.returns-clause-few
returns-clause-few c = rw (← c.self.view_is)
    (few_numbers (64 * c.self.inside.first) c.self.inside.words.items (omega (arith, c.self.invariant.in_range)))
