use Rattle.std.proofs.Common.{All, take}
use Rattle.prop_solve.specs.Questions.{Imply}
use Rattle.prop_solve.proofs.solver.are_better.Given as goal

abbrev pub invariant-loop-before : goal.invariant-loop-before
invariant-loop-before l = All (λ before. Imply before.items l.facts) (take l.before-index l.excuses)
