-- Informations that lose none of the points that satisfy a state.
use Rattle.std.specs.Prelude.{ℕ, List}
use Rattle.prop_lattice.specs.Points.{Point, Holds}
use Rattle.prop_lattice.specs.declared.info.Info.{Info}
use Rattle.prop_numbers.specs.Sets.{Members}
use Rattle.prop_procedures.specs.Stored.{Stored}
use Rattle.prop_workbench.specs.Machine.{State}
use Rattle.prop_workbench.specs.Points.{Satisfy}

-- whichever points satisfy what is believed, the information holds the cell's
abbrev pub HoldsPoints : List Stored → State → Members → ℕ → Info → Type 0
HoldsPoints library s believed cell v = (points : ℕ → Point) → Satisfy library s believed points
    → Holds v (points cell)
