use Rattle.prop_arith.proofs.kit.Kit.of_one.Goals as goal

pub returns-in-Square : goal.returns-in-Square
returns-in-Square c = rw c.in-Square.is (c.squarer.ensures c.args.param.now)

pub returns-in-Copy : goal.returns-in-Copy
returns-in-Copy c = rw c.in-Copy.is (c.copier.ensures c.args.param.now)

pub returns-in-Not : goal.returns-in-Not
returns-in-Not c = rw c.in-Not.is (c.inverter.ensures c.args.param.now)
