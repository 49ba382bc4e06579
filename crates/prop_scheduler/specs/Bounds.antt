-- What bounds the calls of a run: its potential (see Potential) is never more than `most_steps`.
use Rattle.std.specs.Prelude.{◌≢◌, ℕ, ◌+◌, ◌*◌, ◌≤◌, List, All, length}
use Rattle.prop_lattice.specs.declared.info.Kind.TheVariants.{Span}
use Rattle.prop_procedures.specs.declared.shape.Kinded.{Kinded}
use Rattle.prop_cells.specs.Problems.{Problem, Assignment}
use Rattle.prop_cells.specs.inner.Problems.{AreOfKinds}
use Rattle.prop_scheduler.specs.Agendas.{IsLine}
use Rattle.prop_scheduler.specs.Potential.{input_places, potential, most_steps}

-- where the line holds instances only, none twice, and the assignment is of the kinds of the cells,
-- the potential is no more than `most_steps`
abbrev pub MostIsMost : Type 0
MostIsMost =
    (problem : Problem) (a : Assignment) (line : List ℕ) → AreOfKinds problem.cells a
    → IsLine line (length problem.constraints) → potential problem a line ≤ most_steps problem

-- a kind of sets of 64 elements at most, or of symbols
pub record IsSmall (k : Kinded) : Type 0 where
  pub no_span : k.kind ≢ Span
  pub size : k.size ≤ 64

-- where all cells are of such kinds, `most_steps` is at most the number of instances and 65 for
-- each input place
abbrev pub MostOfSmall : Type 0
MostOfSmall = (problem : Problem) → All IsSmall problem.cells
    → most_steps problem ≤ length problem.constraints + 65 * length (input_places problem)
