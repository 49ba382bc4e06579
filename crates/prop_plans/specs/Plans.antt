-- Plans: a value for each cell of a network, which leaves a single point.
use Rattle.std.specs.Prelude.{◌≡◌, ◌<◌, ◌≤◌, ℕ, Bool, IsTrue, List, All, length, take}
use Rattle.std.specs.Prelude.{slice_index_or}
use Rattle.prop_lattice.specs.Points.{Point}
use Rattle.prop_lattice.specs.Rank.{IsOf}
use Rattle.prop_lattice.specs.declared.info.Info.{Info}
use Rattle.prop_lattice.specs.declared.info.Info.TheVariants.{Nothing}
use Rattle.prop_numbers.specs.Sets.{Members}
use Rattle.prop_procedures.specs.Fitting.{kind_at}
use Rattle.prop_procedures.specs.Stored.{Stored}
use Rattle.prop_procedures.specs.declared.shape.Kinded.{Kinded}
use Rattle.prop_cells.specs.Data.{Data, problem_of}
use Rattle.prop_cells.specs.Instances.{constraint_of}
use Rattle.prop_cells.specs.Points.{ArePoints}
use Rattle.prop_cells.specs.Problems.{Assignment, IsSolution}
use Rattle.prop_cells.specs.inner.Problems.{Meets}
use Rattle.prop_points.specs.Networks.{AreSettled}
use Rattle.prop_points.specs.Singles.{IsSingle}
use Rattle.prop_plans.specs.Held.{AreHeld, attached_of}

-- the value of a cell, and nothing where there is none
abbrev pub value_in : List Info → Assignment
value_in values cell = slice_index_or values cell Nothing

-- the information is of the kind and leaves a single point
pub record IsValueOf (k : Kinded) (a : Info) : Type 0 where
  pub of_kind : IsOf k.kind k.size a
  pub single : (p : Point) × IsSingle a p

-- there are as many values as cells, and each is of its cell's kind and leaves a single point
pub record AreValues (kinds : List Kinded) (values : List Info) : Type 0 where
  pub count : length values ≡ length kinds
  pub each : (cell : ℕ) → cell < length kinds
      → IsValueOf (kind_at kinds cell) (value_in values cell)

-- the values leave a single point of each cell, and satisfy what is stated by the premises of the
-- set or by none, and each instance
pub record IsPlan (library : List Stored) (d : Data) (s : Members) (values : List Info) : Type 0
  where
    pub count : length values ≡ length d.kinds
    pub points : ℕ → Point
    pub settled : AreSettled (attached_of d) (value_in values) points
    pub solves : IsSolution (problem_of library d) s (value_in values)

-- the points that the values leave satisfy all that is stated by the premises of the set or by
-- none, and each procedure holds those of its cells
abbrev pub Satisfy : List Stored → Data → Members → List Info → Type 0
Satisfy library d s values = (points : ℕ → Point)
    → ((cell : ℕ) → cell < length d.kinds → IsSingle (value_in values cell) (points cell))
    → ArePoints (AreHeld library) (attached_of d) s points

-- ---- how far a check has come

-- how far a check is: the values of a plan, whether they are known to fit the cells, and how many
-- instances are known to be met
pub record Checked : Type 0 where
  pub values : List Info
  pub fitting : Bool
  pub met : ℕ

-- each of the first n instances is met: what it answers on the values of its inputs is below the
-- value of its output
abbrev pub AreMet : List Stored → Data → List Info → ℕ → Type 0
AreMet library d values n =
    All (λ x. Meets (value_in values) (constraint_of library x)) (take n d.instances)

-- what a check knows is so
pub record IsUnderWay (library : List Stored) (d : Data) (c : Checked) : Type 0 where
  pub fitting : IsTrue c.fitting → AreValues d.kinds c.values
  pub within : c.met ≤ length d.instances
  pub met : AreMet library d c.values c.met
