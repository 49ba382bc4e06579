use Rattle.prop_numbers.specs.Sets.{IsPart, set_of}
use Rattle.prop_premises.specs.Origins.{believed_in}
use Rattle.prop_solve.proofs.solver.root_of.Given as goal

abbrev pub invariant-loop-number : goal.invariant-loop-number
invariant-loop-number l = IsPart (set_of l.root) (believed_in l.premises)
