-- The cells that have a name.
use Rattle.std.specs.Prelude.{ℕ, ◌-◌, List, [], ◌∷◌, ◌++◌, Bool, Option, length, map, take, is_none}
use Rattle.std.specs.Prelude.{◌≡◌, slice_get, slice_index_or, unwrap_or, position, ◌==◌, None}
use Rattle.std.specs.List.{list_any}
use Rattle.std.specs.Option.{option_and_then}
use Rattle.prop_vocabulary.specs.Names.{number_in}

-- the names of cells in order of their declaration, and the number of the cell of each
pub record CellNames : Type 0 where
  pub names : List (List ℕ)
  pub cells : List ℕ

abbrev pub no_cell_names : CellNames
no_cell_names = record { names = []; cells = [] }

-- the number of the cell with the name
abbrev pub cell_named : CellNames → List ℕ → Option ℕ
cell_named c name = option_and_then (λ n. slice_get c.cells n) (number_in c.names name)

-- the name of the cell of this number, of several the first
abbrev pub name_at : CellNames → ℕ → Option (List ℕ)
name_at c cell = option_and_then (λ n. slice_get c.names n) (position (λ x. x == cell) c.cells)

-- the numbers of the cells with these names, 0 where there is none
abbrev pub cells_named : CellNames → List (List ℕ) → List ℕ
cells_named c words = map (λ word. unwrap_or (cell_named c word) 0) words

-- one of the words names no cell
abbrev pub is_cell_missing : CellNames → List (List ℕ) → Bool
is_cell_missing c words = list_any (λ word. is_none (cell_named c word)) words

-- one name more
abbrev pub with_cell_name : CellNames → List ℕ → ℕ → CellNames
with_cell_name c name cell = record { names = c.names ++ name ∷ []; cells = c.cells ++ cell ∷ [] }

-- all names but the last
abbrev pub without_last_cell_name : CellNames → CellNames
without_last_cell_name c = record {
  names = take (length c.names - 1) c.names;
  cells = take (length c.cells - 1) c.cells;
}

-- at each cell's number: where it stands first among the cells, if it does
abbrev pub HasFirsts : List (Option ℕ) → List ℕ → Type 0
HasFirsts firsts cells = (cell : ℕ)
    → slice_index_or firsts cell None ≡ position (λ x. x == cell) cells
