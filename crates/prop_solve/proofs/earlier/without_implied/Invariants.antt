use Rattle.prop_solve.specs.Leaving.{NarrowsAll}
use Rattle.prop_solve.proofs.earlier.without_implied.Given as goal

abbrev pub invariant-loop : goal.invariant-loop
invariant-loop l = NarrowsAll l.fn.nogood l.nogood
