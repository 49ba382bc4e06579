use Rattle.prop_contents.proofs.contents.knows.Goals as goal

pub returns-in-Some-clause-knows : goal.returns-in-Some-clause-knows
returns-in-Some-clause-knows c =
    rw (c.requires.known c.args.cell c.in-Some.info.now c.in-Some.ensures.some) c.implies.ensures
