-- Points: a single value for each cell. When they satisfy statements and instances, and which
-- informations hold them then.
use Rattle.std.specs.Prelude.{◌≡◌, ℕ, IsTrue, List, map, length, Some, All, slice_get}
use Rattle.prop_lattice.specs.Points.{Point, Holds, IsPointOf}
use Rattle.prop_lattice.specs.declared.info.Info.{Info}
use Rattle.prop_numbers.specs.Sets.{Members}
use Rattle.prop_procedures.specs.declared.shape.Kinded.{Kinded}
use Rattle.prop_procedures.specs.declared.shape.Param.{Param}
use Rattle.prop_procedures.specs.Rules.{IsSound}
use Rattle.prop_procedures.specs.Stored.{Stored}
use Rattle.prop_cells.specs.Problems.{Problem, Entails, IsConsistent, is_member}
use Rattle.prop_cells.specs.Instances.{Instance, IsFitting, IsWithin, constraint_of}
use Rattle.prop_cells.specs.declared.instance.Statement.{Statement}

-- No procedure loses points that belong together: wherever its arguments hold the points of the
-- inputs, its answer holds the point of the output.
abbrev pub AreSoundBy : List Stored → (ℕ → Param → List Point → Point → Type 0) → Type 0
AreSoundBy library related = (n : ℕ) (p : Stored) → slice_get library n ≡ Some p
    → IsSound p.value (related n) p.ins p.out p.need

-- cells, what was stated of them and what is attached to them
pub record Attached : Type 0 where
  pub kinds : List Kinded
  pub statements : List Statement
  pub instances : List Instance

abbrev pub problem_of : List Stored → Attached → Problem
problem_of library n = record {
  cells = n.kinds;
  statements = n.statements;
  constraints = map (constraint_of library) n.instances;
}

-- each instance is of one of the library's procedures, on cells that are there and fit it
pub record AreFitting (library : List Stored) (n : Attached) : Type 0 where
  pub fitting : All (IsFitting library n.kinds) n.instances
  pub within : All (IsWithin (length n.kinds)) n.instances

-- A point for each cell, of its kind, that lies in each statement under a premise of the set or
-- under none. The points at each instance belong together.
pub record ArePoints (related : ℕ → Param → List Point → Point → Type 0) (n : Attached)
    (s : Members) (points : ℕ → Point) : Type 0 where
  pub of_kind : (cell : ℕ) (k : Kinded) → slice_get n.kinds cell ≡ Some k
      → IsPointOf k.kind k.size (points cell)
  pub stated : All (λ x. IsTrue (is_member s x.premise) → Holds x.info (points x.cell)) n.statements
  pub together : All (λ x. related x.procedure x.param (map points x.inputs) (points x.output))
      n.instances

-- what a set of premises entails of a cell holds the cell's point, whichever such points there are
abbrev pub EntailedHoldsPoints : List Stored → (ℕ → Param → List Point → Point → Type 0) → Type 0
EntailedHoldsPoints library related =
    (n : Attached) (s : Members) (points : ℕ → Point) → AreFitting library n
    → ArePoints related n s points → (cell : ℕ) (v : Info)
    → Entails (problem_of library n) s cell v → Holds v (points cell)

-- a set of premises that has such points is consistent
abbrev pub PointsAreConsistent : List Stored → (ℕ → Param → List Point → Point → Type 0) → Type 0
PointsAreConsistent library related =
    (n : Attached) (s : Members) (points : ℕ → Point) → AreFitting library n
    → ArePoints related n s points → IsConsistent (problem_of library n) s
