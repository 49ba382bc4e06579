-- Which cells fit a procedure.
use Rattle.std.specs.Prelude.{ℕ, List, [], ◌∷◌, ◌++◌, Bool, Option, map, zip}
use Rattle.std.specs.Prelude.{slice_index_or}
use Rattle.prop_procedures.specs.declared.shape.Kinded.{Kinded}
use Rattle.prop_procedures.specs.Stored.{Stored, span_kind, are_right}
use Rattle.prop_sets.specs.declared.side.Side.{Side}

abbrev pub kind_at : List Kinded → ℕ → Kinded
kind_at kinds cell = slice_index_or kinds cell span_kind

-- the kinds of the cells fit the procedure's places, where a relation has these sides or none is
-- given
abbrev pub kinds_fit : Stored → List Kinded → Option (Side × Side) → List ℕ → Bool
kinds_fit p kinds given cells =
    are_right p.need given (zip (p.ins ++ p.out ∷ []) (map (kind_at kinds) cells))
