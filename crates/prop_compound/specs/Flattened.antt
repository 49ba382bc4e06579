-- The flat form of a use, which is handed out for it: its fresh cells, its parameters and its
-- instances, in one list each.
use Rattle.std.specs.Prelude.{◌≡◌, ◌<◌, ℕ, ◌+◌, List, ◌++◌, All, Option, Some, false, length, map}
use Rattle.std.specs.Prelude.{slice_get}
use Rattle.prop_procedures.specs.declared.shape.Kinded.{Kinded}
use Rattle.prop_procedures.specs.declared.shape.Param.{Param}
use Rattle.prop_procedures.specs.Stored.{Stored}
use Rattle.prop_procedures.specs.declared.flat.Placed as instances
use Rattle.prop_procedures.specs.declared.flat.Flat.{Flat}
use Rattle.prop_procedures.specs.Flats.{cells_of, param_at}
use Rattle.prop_compound.specs.Expansion.{Placed, Expansion}

-- the instance, with its parameter for the parameter's number
abbrev pub placed_of : List Param → instances.Placed → Placed (Option Param)
placed_of params x = record {
  procedure = x.procedure;
  given = param_at params x.param;
  cells = cells_of x;
}

-- the expansion that the flat form stands for, behind given cells of these kinds
abbrev pub expansion_of_flat : List Kinded → Flat → Expansion (Option Param)
expansion_of_flat kinds flat = record {
  kinds = kinds ++ flat.fresh.items;
  placed = map (placed_of flat.params.items) flat.instances.items;
  spare = false;
}

-- the instance is one of a procedure of the library, has as many inputs as that, and is on cells
-- with numbers below n
pub record IsInstanceOver (library : List Stored) (n : ℕ) (x : instances.Placed) : Type 0 where
  pub procedure : Stored
  pub at : slice_get library x.procedure ≡ Some procedure
  pub count : length x.inputs.items ≡ length procedure.ins
  pub cells : All (λ cell. cell < n) (cells_of x)

-- each instance of the flat form is one of a procedure of the library, on the `count` given cells
-- and the fresh ones behind them
abbrev pub IsFlatOver : List Stored → ℕ → Flat → Type 0
IsFlatOver library count flat =
    All (IsInstanceOver library (count + length flat.fresh.items)) flat.instances.items
