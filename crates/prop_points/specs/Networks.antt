-- Networks in which each cell leaves a single point, and what these points satisfy.
use Rattle.std.specs.Prelude.{◌≡◌, ◌<◌, ℕ, List, length, Some, All, slice_get}
use Rattle.prop_lattice.specs.Points.{Point}
use Rattle.prop_procedures.specs.declared.shape.Param.{Param}
use Rattle.prop_procedures.specs.Stored.{Stored}
use Rattle.prop_cells.specs.Points.{Attached, AreFitting, ArePoints, problem_of}
use Rattle.prop_cells.specs.Problems.{Assignment, IsSolution}
use Rattle.prop_cells.specs.inner.Problems.{Premises}
use Rattle.prop_points.specs.Singles.{IsExact, IsSingle}

-- whatever point a procedure's answer to single points holds, it is related to them
abbrev pub AreExactBy : List Stored → (ℕ → Param → List Point → Point → Type 0) → Type 0
AreExactBy library related =
    (n : ℕ) (p : Stored) → slice_get library n ≡ Some p
    → IsExact p.value (related n) p.ins p.out p.need

-- the assignment leaves each cell only its point, and each statement is at a cell that is there
pub record AreSettled (n : Attached) (a : Assignment) (points : ℕ → Point) : Type 0 where
  pub single : (cell : ℕ) → cell < length n.kinds → IsSingle (a cell) (points cell)
  pub within : All (λ x. x.cell < length n.kinds) n.statements

-- where a solution leaves each cell a single point, these points lie in all that is stated under
-- the set, and are related at each instance
abbrev pub SinglesSolve : List Stored → (ℕ → Param → List Point → Point → Type 0) → Type 0
SinglesSolve library related =
    (n : Attached) (s : Premises) (a : Assignment) (points : ℕ → Point) → AreFitting library n
    → IsSolution (problem_of library n) s a → AreSettled n a points → ArePoints related n s points
