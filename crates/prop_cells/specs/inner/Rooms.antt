-- Rows of numbers, one for each cell, with room for more.
use Rattle.std.specs.Prelude.{◌≡◌, ℕ, ◌<◌, ◌-◌, ◌==◌, cond, List, [], ◌∷◌, ◌++◌, length, map, take}
use Rattle.std.specs.Prelude.{Some, slice_get, slice_index_or, vec_capacity}
use Rattle.std.specs.List.{list_any}
use Rattle.std.specs.declared.vec.Vec.{Vec}

-- the numbers in each row
abbrev pub row_items : {Z : Type 0} → List (Vec ℕ Z) → List (List ℕ)
row_items rows = map (λ row. row.items) rows

-- the cell's row has room for one more number
abbrev pub HasRoom : {Z : Type 0} → List (Vec ℕ Z) → ℕ → Type 0
HasRoom {Z} rows cell = (row : Vec ℕ Z) → slice_get rows cell ≡ Some row
    → length row.items < vec_capacity row

-- the rows of these cells changed in this way, each once, and the others are as they were
pub record ChangesAt (change : List ℕ → List ℕ) (old new : List (List ℕ)) (cells : List ℕ) : Type 0
  where
    pub count : length new ≡ length old
    pub each : (cell : ℕ) → slice_index_or new cell [] ≡ cond (list_any (λ c. c == cell) cells)
        (change (slice_index_or old cell [])) (slice_index_or old cell [])

-- the number was put at the end of the rows of these cells
abbrev pub Noted : List (List ℕ) → List (List ℕ) → List ℕ → ℕ → Type 0
Noted old new cells number = ChangesAt (λ row. row ++ number ∷ []) old new cells

-- the last number was taken from the rows of these cells
abbrev pub TakenBack : List (List ℕ) → List (List ℕ) → List ℕ → Type 0
TakenBack old new cells = ChangesAt (λ row. take (length row - 1) row) old new cells
