use Rattle.std.proofs.Common.{◌*◌}
use Rattle.prop_numbers.proofs.WordLemmas.{increasing-numbers_from}
use Rattle.prop_numbers.proofs.words.Words.only.Goals as goal

pub returns-then-len-ne1-clause-ordered : goal.returns-then-len-ne1-clause-ordered
returns-then-len-ne1-clause-ordered c =
    rw (← c.self.view_is) (increasing-numbers_from (64 * c.self.inside.first) c.self.inside.words.items)

pub returns-clause-ordered : goal.returns-clause-ordered
returns-clause-ordered c = rw (← c.self.view_is)
    (increasing-numbers_from (64 * c.self.inside.first) c.self.inside.words.items)
