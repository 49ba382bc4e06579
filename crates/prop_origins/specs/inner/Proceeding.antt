-- How what is known of the cells grows from call to call.
use Rattle.std.specs.Prelude.{ℕ, ◌+◌, ◌≤◌, List}
use Rattle.prop_lattice.specs.Order.{Below}
use Rattle.prop_cells.specs.Problems.{Problem, Assignment, OthersMeet}
use Rattle.prop_cells.specs.inner.Problems.{AreOfKinds}
use Rattle.prop_scheduler.specs.Potential.{potential}

-- After so many calls no less is known of any cell, and it is of the cell's kind. The potential
-- fell by as much as there were calls, or more. If each instance that didn't wait before was met,
-- each that doesn't wait now is: its value is below what is known of its output.
pub record Proceeds (problem : Problem) (calls : ℕ) (line after : List ℕ) (known more : Assignment)
    : Type 0 where
  pub of_kinds : AreOfKinds problem.cells more
  pub grows : (cell : ℕ) → Below (known cell) (more cell)
  pub falls : potential problem more after + calls ≤ potential problem known line
  pub met : OthersMeet problem.constraints line known → OthersMeet problem.constraints after more
