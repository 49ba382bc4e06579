use Rattle.prop_premises.specs.Origins.{believed_in, choices_of}
use Rattle.prop_procedures.specs.Kept.{stored_of}
use Rattle.prop_plans.specs.Held.{attached_of}
use Rattle.prop_deriving.specs.Known.{IsKnown}
use Rattle.prop_solve.proofs.solver.Solver.derived.Given as goal

abbrev pub invariant-loop : goal.invariant-loop
invariant-loop g l =
    IsKnown (stored_of g.R.Rule.value_of l.fn.network.library) (attached_of l.fn.network.cells)
    (choices_of l.fn.premises) (believed_in l.fn.premises) l.fn.self.excuses l.learning
