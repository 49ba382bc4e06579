use Rattle.prop_deriving.proofs.StayLemmas.{always_along}
use Rattle.prop_deriving.proofs.learning.Learning.drop_repeated.Goals as goal

pub returns-in_default : goal.returns-in_default
returns-in_default c =
    always_along c.args.self.now c.loop.self c.drop_next.new.self c.loop.invariant c.drop_next.ensures

pub loop-preserved : goal.loop-preserved
loop-preserved c =
    always_along c.args.self.now c.loop.self c.drop_next.new.self c.loop.invariant c.drop_next.ensures
