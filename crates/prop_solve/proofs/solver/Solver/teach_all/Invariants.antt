use Rattle.prop_solve.specs.Leaving.{Teaches}
use Rattle.prop_solve.proofs.solver.Solver.teach_all.Given as goal

abbrev pub invariant-loop-number : goal.invariant-loop-number
invariant-loop-number l = Teaches l.self l.fn.lessons l.lessons
