-- The instances of what is handed out for a use.
use Rattle.std.specs.Prelude.{ℕ, ◌+◌, ◌-◌, List, [], ◌∷◌, ◌++◌, cond, nat_lt, Option, length}
use Rattle.std.specs.Prelude.{slice_get, slice_index_or}
use Rattle.std.specs.Option.{option_and_then}
use Rattle.prop_procedures.specs.declared.flat.Placed.{Placed}
use Rattle.prop_procedures.specs.declared.shape.Param.{Param}

-- the places of an instance's cells, its inputs and then its output
abbrev pub cells_of : Placed → List ℕ
cells_of x = x.inputs.items ++ x.output ∷ []

-- the parameter at the place, where there is a place
abbrev pub param_at : List Param → Option ℕ → Option Param
param_at params place = option_and_then (λ n. slice_get params n) place

-- the number of the cell at a place: these cells have the first places, and the fresh ones,
-- numbered from next on, those behind
abbrev pub cell_placed : List ℕ → ℕ → ℕ → ℕ
cell_placed cells next place = cond (nat_lt place (length cells)) (slice_index_or cells place 0)
    (next + (place - length cells))
