use Rattle.prop_deriving.proofs.StayLemmas.{always_along}
use Rattle.prop_deriving.proofs.learning.Learning.drop_next.Goals as goal

pub returns-in-Some : goal.returns-in-Some
returns-in-Some c =
    always_along c.args.self.now c.loop-at.self c.drop_beside.new.self c.loop-at.invariant c.drop_beside.ensures

pub loop-at-preserved : goal.loop-at-preserved
loop-at-preserved c =
    always_along c.args.self.now c.loop-at.self c.drop_beside.new.self c.loop-at.invariant c.drop_beside.ensures
