-- The potential of a network, by what its cells hold.
use Rattle.std.specs.Prelude.{ℕ, List}
use Rattle.prop_procedures.specs.Stored.{Stored}
use Rattle.prop_contents.specs.Contents.{beliefs}
use Rattle.prop_cells.specs.inner.Problems.{Premises}
use Rattle.prop_cells.specs.Data.{Data, problem_of}
use Rattle.prop_scheduler.specs.Potential.{potential}

-- the potential of the problem, by what waits and what the premises believe
abbrev pub potential_of : List Stored → Premises → Data → List ℕ → ℕ
potential_of library s d line = potential (problem_of library d) (beliefs s d.contents) line
