use Rattle.std.proofs.Common.{◌≡◌}
use Rattle.prop_procedures.specs.Kept.{stored_of}
use Rattle.prop_solve.specs.Answers.{AsksTheSame}
use Rattle.prop_solve.specs.Searches.{IsSearch}
use Rattle.prop_solve.proofs.solver.Solver.take_up.Given as goal

abbrev pub invariant-loop-nogood : goal.invariant-loop-nogood
invariant-loop-nogood g l =
    IsSearch (stored_of g.R.Rule.value_of l.network.library) l.network.cells l.premises l.self
    × AsksTheSame l.fn.self l.self × (l.self.excuses ≡ l.fn.self.excuses)
