use Rattle.prop_arith.proofs.kit.Kit.of_three.Goals as goal

pub returns-in-Apart : goal.returns-in-Apart
returns-in-Apart c = rw c.in-Apart.is c.parter.ensures
