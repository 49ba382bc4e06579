use Rattle.std.proofs.Common.{rules}
use Rattle.std.proofs.lemmas.Fn.{filter_same}
use Rattle.prop_nogoods.proofs.StoreLemmas.{staying_all}
use Rattle.prop_nogoods.proofs.counted.drop_any_larger.Goals as goal

pub returns-then-has_larger-clause-left : goal.returns-then-has_larger-clause-left
returns-then-has_larger-clause-left c = filter_same _ _ _ (λ x b q k. search rules) _ _ c.retain.ensures.filtered

pub returns-else-has_larger-clause-left : goal.returns-else-has_larger-clause-left
returns-else-has_larger-clause-left c =
    staying_all c.args.counted.now.items c.args.nogood.now (c.requires.none c.if-has_larger.false)
