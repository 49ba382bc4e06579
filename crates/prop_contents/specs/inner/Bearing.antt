-- Which premises bear on which cells: for each block of n cells in a row, a set of premises.
use Rattle.std.specs.Prelude.{◌≡◌, ◌≢◌, ℕ, ◌/◌, List, [], All, slice_index_or}
use Rattle.prop_numbers.specs.Sets.{set_of, union, IsPart, IsSame}
use Rattle.prop_contents.specs.Contents.{Entry, content_of}

-- each premise on which some entry of a cell rests is in the set of the cell's block
abbrev pub BearOn : ℕ → List (List Entry) → List (List ℕ) → Type 0
BearOn n contents sets = (cell : ℕ)
    → All (λ e. IsPart (set_of e.support) (set_of (slice_index_or sets (cell / n) [])))
    (content_of contents cell)

-- the same set stands at each place, where a place that isn't there counts as one of no premises
abbrev pub AreSame : List (List ℕ) → List (List ℕ) → Type 0
AreSame old new = (place : ℕ) → slice_index_or new place [] ≡ slice_index_or old place []

-- the set at the place has these premises, too, and the other sets stay
pub record UnitesAt (old new : List (List ℕ)) (place : ℕ) (more : List ℕ) : Type 0 where
  pub here : IsSame (set_of (slice_index_or new place []))
      (union (set_of (slice_index_or old place [])) (set_of more))
  pub others : (k : ℕ) → k ≢ place → slice_index_or new k [] ≡ slice_index_or old k []
