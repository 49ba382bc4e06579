-- A use adds just its flat list, put in place on the cells of the use.
use Rattle.std.specs.Prelude.{◌≡◌, ◌<◌, ℕ, List, ◌++◌, All, false, Option, drop, length, map}
use Rattle.std.specs.List.{range_with_len}
use Rattle.prop_procedures.specs.declared.shape.Kinded.{Kinded}
use Rattle.prop_procedures.specs.declared.shape.Param.{Param}
use Rattle.prop_procedures.specs.Fitting.{kind_at}
use Rattle.prop_procedures.specs.Flats.{cell_placed}
use Rattle.prop_vocabulary.specs.Vocabulary.{Vocabulary}
use Rattle.prop_compound.specs.declared.definition.Passing.{Passing}
use Rattle.prop_compound.specs.declared.definition.Passing.TheVariants.{Own}
use Rattle.prop_compound.specs.declared.definition.Used.{Used}
use Rattle.prop_compound.specs.Definitions.{Definition}
use Rattle.prop_compound.specs.Expansion.{Placed, Expansion, Walk, start, param_passed, expanded_in}
use Rattle.prop_compound.specs.Shortcuts.{passed}
use Rattle.prop_compound.specs.Kept.{IsUseThere}

-- The flat list of a procedure or a definition, over its own parameters. They are of these kinds
-- and are the first cells; the fresh ones are numbered on behind them. What an instance is given
-- stands as a step would pass it, where `Own` is what the use itself will be given.
abbrev pub flat_list : List Definition → Used → List Kinded → Expansion Passing
flat_list definitions used kinds =
    expanded_in passed definitions used (range_with_len 0 (length kinds)) Own (start kinds false)

-- an instance of a flat list, put in place for a use that is on these cells and is given `given`,
-- where fresh cells are numbered from `next` on
abbrev pub placed_at : Vocabulary → Option Param → List ℕ → ℕ → Placed Passing
    → Placed (Option Param)
placed_at words given cells next x = record {
  procedure = x.procedure;
  given = param_passed words given x.given;
  cells = map (cell_placed cells next) x.cells;
}

-- what was expanded before, and behind it the flat list put in place on these cells: its fresh
-- cells are the next ones
abbrev pub put_in_place : Vocabulary → Option Param → List ℕ → Expansion Passing → Walk → Walk
put_in_place words given cells flat e = record {
  kinds = e.kinds ++ drop (length cells) flat.kinds;
  placed = e.placed ++ map (placed_at words given cells (length e.kinds)) flat.placed;
  spare = e.spare;
}

-- whatever was expanded before, a use on cells that are there adds just its flat list put in place
abbrev pub UsesArePutInPlace : List Definition → Type 0
UsesArePutInPlace definitions =
    (words : Vocabulary) (used : Used) (cells : List ℕ) (given : Option Param) (e : Walk)
    → IsUseThere definitions used (length cells) → All (λ cell. cell < length e.kinds) cells →
    expanded_in (param_passed words) definitions used cells given e ≡ put_in_place words given cells
    (flat_list definitions used (map (kind_at e.kinds) cells)) e
