use Rattle.prop_arith.proofs.kit.Kit.of_two.Goals as goal

pub returns-in-Add : goal.returns-in-Add
returns-in-Add c = rw c.in-Add.is (c.adder.ensures c.args.param.now)

pub returns-in-Sub : goal.returns-in-Sub
returns-in-Sub c = rw c.in-Sub.is (c.subtracter.ensures c.args.param.now)

pub returns-in-Root : goal.returns-in-Root
returns-in-Root c = rw c.in-Root.is (c.rooter.ensures c.args.param.now)

pub returns-in-Less : goal.returns-in-Less
returns-in-Less c = rw c.in-Less.is (c.lesser.ensures c.args.param.now)

pub returns-in-Below : goal.returns-in-Below
returns-in-Below c = rw c.in-Below.is (c.below.ensures c.args.param.now)

pub returns-in-Above : goal.returns-in-Above
returns-in-Above c = rw c.in-Above.is (c.above.ensures c.args.param.now)

pub returns-in-Alike : goal.returns-in-Alike
returns-in-Alike c = rw c.in-Alike.is (c.comparer.ensures c.args.param.now)

pub returns-in-Switch : goal.returns-in-Switch
returns-in-Switch c = rw c.in-Switch.is (c.passer.ensures c.args.param.now)

pub returns-in-And : goal.returns-in-And
returns-in-And c = rw c.in-And.is (c.conjoiner.ensures c.args.param.now)

pub returns-in-AndBack : goal.returns-in-AndBack
returns-in-AndBack c = rw c.in-AndBack.is (c.conjoin_back.ensures c.args.param.now)

pub returns-in-Or : goal.returns-in-Or
returns-in-Or c = rw c.in-Or.is (c.disjoiner.ensures c.args.param.now)

pub returns-in-OrBack : goal.returns-in-OrBack
returns-in-OrBack c = rw c.in-OrBack.is (c.disjoin_back.ensures c.args.param.now)
