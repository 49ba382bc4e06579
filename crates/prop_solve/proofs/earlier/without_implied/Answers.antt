use Rattle.prop_solve.proofs.earlier.without_implied.Goals as goal

pub loop-preserved : goal.loop-preserved
loop-preserved c = λ library n choices list points sided met.
    c.loop.invariant library n choices list points sided
    (c.drop_repeated.ensures.narrows library n choices list points sided met)
