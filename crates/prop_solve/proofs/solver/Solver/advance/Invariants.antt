use Rattle.std.proofs.Common.{◌≡◌}
use Rattle.prop_procedures.specs.Kept.{stored_of}
use Rattle.prop_solve.specs.Answers.{AsksTheSame}
use Rattle.prop_solve.specs.Searches.{IsSearch}
use Rattle.prop_solve.proofs.solver.Solver.advance.Given as goal

abbrev pub invariant-loop : goal.invariant-loop
invariant-loop g l =
    IsSearch (stored_of g.R.Rule.value_of l.network.library) l.network.cells l.premises l.self
    × AsksTheSame l.fn.self l.self × (l.self.excuses ≡ l.fn.self.excuses)
