use Rattle.prop_nogoods.proofs.EndingLemmas.{left_all}
use Rattle.prop_nogoods.proofs.ending.drop_any_larger_everywhere.Goals as goal

pub returns-else-has_larger : goal.returns-else-has_larger
returns-else-has_larger c = left_all c.args.nogood.now c.args.endings.now (c.requires.none c.if-has_larger.false)
