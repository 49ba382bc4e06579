-- Statements that are made under sides of choices, and which places each touches: its cell and its
-- choice.
use Rattle.std.specs.Prelude.{◌≡◌, ℕ, ◌+◌, ◌<◌, ◌⊎◌, List, [], ◌∷◌, ◌++◌, All, Contains, Some}
use Rattle.std.specs.Prelude.{length, nat_lt, slice_get, slice_index_or, slice_set, if◌then◌else◌}
use Rattle.prop_premises.specs.declared.choice.Choice.{Choice}
use Rattle.prop_cells.specs.Points.{Attached}
use Rattle.prop_refuting.specs.Steps.{IsSideAt}
use Rattle.prop_deriving.specs.declared.sides.Sided.{Sided}

-- statements under sides, and for each place the numbers of those that touch it
pub record Sidings : Type 0 where
  pub sided : List Sided
  pub touching : List (List ℕ)

-- the network's statement with this number says the same of the same cell, under the premise of
-- this side
pub record IsSided (n : Attached) (choices : List Choice) (x : Sided) : Type 0 where
  pub premise : ℕ
  pub of : slice_get n.statements x.statement
      ≡ Some (record { premise = Some premise; cell = x.cell; info = x.info })
  pub number : ℕ
  pub place : x.choice ≡ length n.kinds + number
  pub side : IsSideAt choices premise number x.side

-- the numbers that stand at a place
abbrev pub row_at : List (List ℕ) → ℕ → List ℕ
row_at rows place = slice_index_or rows place []

-- each statement stands at its cell and at its choice, if these are places
abbrev pub AreListed : Sidings → Type 0
AreListed s = (k : ℕ) (x : Sided) (place : ℕ) → slice_get s.sided k ≡ Some x
    → (place ≡ x.cell) ⊎ (place ≡ x.choice) → place < length s.touching
    → Contains (row_at s.touching place) k

-- a number that stands at a place is that of a statement whose cell or choice it is
abbrev pub AreTouching : Sidings → Type 0
AreTouching s = (k place : ℕ) → Contains (row_at s.touching place) k
    → (x : Sided) × (slice_get s.sided k ≡ Some x) × ((place ≡ x.cell) ⊎ (place ≡ x.choice))

-- There is a place for each cell and each choice. Each statement is as the network states it, and
-- stands at its cell and at its choice, and nowhere else.
pub record AreSidings (n : Attached) (choices : List Choice) (s : Sidings) : Type 0 where
  pub places : length s.touching ≡ length n.kinds + length choices
  pub stated : All (IsSided n choices) s.sided
  pub listed : AreListed s
  pub touch : AreTouching s

-- the rows once the number is added at the place, where there is such a place
abbrev pub noted : List (List ℕ) → ℕ → ℕ → List (List ℕ)
noted rows place number = if nat_lt place (length rows) then
    slice_set rows place (row_at rows place ++ number ∷ []) else rows

-- one more statement, which stands at its cell and at its choice
abbrev pub sided_more : Sidings → Sided → Sidings
sided_more s x = record {
  sided = s.sided ++ x ∷ [];
  touching = noted (noted s.touching x.cell (length s.sided)) x.choice (length s.sided);
}
