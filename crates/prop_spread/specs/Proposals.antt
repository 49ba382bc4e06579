-- A plan that is proposed, and what is known of it.
use Rattle.std.specs.Prelude.{ℕ, List, ◌<◌, length}
use Rattle.prop_lattice.specs.Points.{Point}
use Rattle.prop_lattice.specs.declared.info.Info.{Info}
use Rattle.prop_numbers.specs.Sets.{set_of, IsSame}
use Rattle.prop_premises.specs.ChoiceLists.{IsChoiceList, worldview}
use Rattle.prop_premises.specs.Origins.{Origin, choices_of, believed_in}
use Rattle.prop_procedures.specs.Stored.{Stored}
use Rattle.prop_cells.specs.Data.{Data}
use Rattle.prop_plans.specs.Plans.{Checked, IsUnderWay, value_in}
use Rattle.prop_points.specs.Singles.{IsSingle}

-- a plan that is looked at: its check, a side of each choice, and what is believed with these
pub record Proposed : Type 0 where
  pub check : Checked
  pub sides : List ℕ
  pub view : List ℕ

-- the plan has a side of each choice, and what its check knows is so
pub record IsProposed (library : List Stored) (d : Data) (premises : List Origin) (p : Proposed)
    : Type 0 where
  pub sides : IsChoiceList (choices_of premises) p.sides
  pub view : IsSame (set_of p.view) (worldview (believed_in premises) (choices_of premises) p.sides)
  pub under_way : IsUnderWay library d p.check

-- the value of each cell leaves a single point
abbrev pub AreSingle : Data → List Info → Type 0
AreSingle d values = (points : ℕ → Point)
    × ((cell : ℕ) → cell < length d.kinds → IsSingle (value_in values cell) (points cell))
