-- What ties the rows of a relation to its columns.
use Rattle.std.specs.Prelude.{◌≡◌, ℕ, List, length, slice_index}
use Rattle.std.specs.Int.{bit_at}

-- each bit of the one, turned round, is a bit of the other
abbrev pub Turned : List ℕ → List ℕ → Type 0
Turned rows columns =
    (i j : ℕ) → bit_at (slice_index rows i) j ≡ 1 → bit_at (slice_index columns j) i ≡ 1

-- so many rows and so many columns, which say the same
pub record AreTied (height width : ℕ) (rows columns : List ℕ) : Type 0 where
  pub height_is : length rows ≡ height
  pub width_is : length columns ≡ width
  pub across : Turned rows columns
  pub back : Turned columns rows
