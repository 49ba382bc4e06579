use Rattle.std.proofs.Common.{rules}
use Rattle.std.proofs.lemmas.Fn.{filter_same}
use Rattle.prop_nogoods.proofs.counted.drop_holding.Goals as goal

pub returns-clause-left : goal.returns-clause-left
returns-clause-left c = filter_same _ _ _ (λ x b q k. search rules) _ _ c.retain.ensures.filtered
