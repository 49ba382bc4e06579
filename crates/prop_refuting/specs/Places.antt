-- Places: the cells of a network, and behind them its choices. What value points and a choice list
-- give to each.
use Rattle.std.specs.Prelude.{ℕ, ◌-◌, nat_lt, if◌then◌else◌, List, length, Option, Some, None}
use Rattle.std.specs.Prelude.{slice_get, slice_index}
use Rattle.std.specs.Option.{option_map_or}
use Rattle.prop_lattice.specs.Points.{Point, Element}
use Rattle.prop_lattice.specs.declared.info.Kind.TheVariants.{Set}
use Rattle.prop_premises.specs.declared.choice.Choice.{Choice}
use Rattle.prop_procedures.specs.declared.shape.Kinded.{Kinded}
use Rattle.prop_cells.specs.Points.{Attached}
use Rattle.prop_facts.specs.Facts.{IsSo}
use Rattle.prop_facts.specs.declared.fact.Literal.{Literal}

-- the value at a place: the point of the cell, or behind all cells the side that the list takes of
-- a choice, counted from 0
abbrev pub point_at : Attached → (ℕ → Point) → List ℕ → ℕ → Point
point_at n points list place = if nat_lt place (length n.kinds) then points place else
    Element (slice_index list (place - length n.kinds) - 1)

-- the literal is so: its fact is so of the value at its place
abbrev pub IsSoAt : Attached → (ℕ → Point) → List ℕ → Literal → Type 0
IsSoAt n points list literal = IsSo literal.fact (point_at n points list literal.place)

-- the kind of a choice's sides
abbrev pub kind_of_sides : Choice → Kinded
kind_of_sides choice = record { kind = Set 0; size = choice.sides }

-- the kind of the value at a place
abbrev pub kind_at_place : Attached → List Choice → ℕ → Option Kinded
kind_at_place n choices place =
    if nat_lt place (length n.kinds) then slice_get n.kinds place else
    option_map_or (λ choice. Some (kind_of_sides choice))
    (slice_get choices (place - length n.kinds)) None
