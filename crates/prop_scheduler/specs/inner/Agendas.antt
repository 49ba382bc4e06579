-- The line of an agenda as it is stored: numbers, each with a flag.
use Rattle.std.specs.Prelude.{◌≡◌, ℕ, ◌≤◌, ◌==◌, Bool, false, cond, List, length, count_by}
use Rattle.std.specs.Prelude.{slice_index_or}

-- numbers in a line, and for how many there is room
pub record Queued : Type 0 where
  pub line : List ℕ
  pub room : ℕ

-- The flag of a number says whether it stands in the line, and no number stands there twice. The
-- line has room for as many numbers as there are flags.
pub record IsFlagged (line : List ℕ) (flags : List Bool) (capacity : ℕ) : Type 0 where
  pub flagged : (j : ℕ) → count_by (λ k. k == j) line ≡ cond (slice_index_or flags j false) 1 0
  pub counted : length line ≡ count_by (λ flag. flag) flags
  pub room : length flags ≤ capacity
