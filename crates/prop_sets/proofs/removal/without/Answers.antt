use Rattle.prop_sets.specs.laws.OtherLaws.{without_narrowest}
use Rattle.prop_sets.proofs.UnionLemmas.{without_cleared}
use Rattle.prop_sets.proofs.removal.without.Goals as goal

pub returns-clause-value : goal.returns-clause-value
returns-clause-value c = rw (c.from_bits.ensures, c.bits.ensures) (without_cleared c.args.y c.args.x c.requires)

pub returns-clause-narrowest : goal.returns-clause-narrowest
returns-clause-narrowest c = rw (returns-clause-value c) (without_narrowest c.args.y c.args.x)
