use Rattle.prop_cells.proofs.ProblemLaws.{least_unique}
use Rattle.prop_cells.proofs.laws.least_solution_is_unique.Goals as goal

pub returns : goal.returns
returns c = least_unique
