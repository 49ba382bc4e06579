-- What an expression that is required demands: the points that satisfy a state are then those that
-- satisfied it before and at which the expression holds.
use Rattle.std.specs.Prelude.{◌≡◌, ◌<◌, ℕ, List, IsTrue, Option, Result, Ok, Err, ⊤, length}
use Rattle.std.specs.Option.{option_map}
use Rattle.prop_lattice.specs.Points.{Point}
use Rattle.prop_numbers.specs.Sets.{Members}
use Rattle.prop_refusals.specs.declared.refusal.Refusal.{Refusal}
use Rattle.prop_procedures.specs.Stored.{Stored}
use Rattle.prop_cells.specs.Problems.{is_member}
use Rattle.prop_terms.specs.Meaning.{holds, worth}
use Rattle.prop_terms.specs.Terms.{Term}
use Rattle.prop_workbench.specs.Effects.{number_given}
use Rattle.prop_workbench.specs.Machine.{State}
use Rattle.prop_workbench.specs.Points.{Satisfy}
use Rattle.prop_demands.specs.Naming.{names_in}

-- The new state demands just this more than the old one. Points that satisfy it satisfy the old
-- state and meet the demand. Points that satisfy the old state and meet the demand satisfy the new
-- one, with some points for the cells that are new.
pub record Demands (library : List Stored) (old new : State)
    (Meet : Members → (ℕ → Point) → Type 0) : Type 0 where
  pub kept : (believed : Members) (points : ℕ → Point) → Satisfy library new believed points
      → Satisfy library old believed points × Meet believed points
  pub found : (believed : Members) (points : ℕ → Point) → Satisfy library old believed points
      → Meet believed points → (all : ℕ → Point)
      × ((cell : ℕ) → cell < length old.kinds → all cell ≡ points cell)
      × Satisfy library new believed all

-- the term holds at these points, if the premise with the name is believed, or none is given
abbrev pub HoldsUnder : State → Term → Option (List ℕ) → Members → (ℕ → Point) → Type 0
HoldsUnder s t premise believed points =
    IsTrue (is_member believed (option_map (number_given s.premises) premise))
    → IsTrue (holds (worth (names_in s points) t))

-- what is demanded: that the term holds under its premise, where that was carried out, and nothing
-- where it was refused
abbrev pub demanded : State → Term → Option (List ℕ) → Result ⊤ Refusal → Members → (ℕ → Point)
    → Type 0
demanded s t premise (Ok done) believed points = HoldsUnder s t premise believed points
demanded s t premise (Err e) believed points = ⊤
