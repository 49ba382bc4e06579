use Rattle.prop_many.specs.laws.SinglesLaws.{each_is_exact}
use Rattle.prop_many.proofs.many.Many.exact.Goals as goal

pub returns : goal.returns
returns c = each_is_exact
