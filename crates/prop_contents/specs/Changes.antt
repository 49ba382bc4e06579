-- How entries come to cells and go.
use Rattle.std.specs.Prelude.{◌≡◌, ◌≢◌, ◌≤◌, ℕ, not, List, filter, All, Contains, length, slice_set}
use Rattle.prop_lattice.specs.declared.info.Info.TheVariants.{Nothing}
use Rattle.prop_lattice.specs.Order.{Below, merge_of}
use Rattle.prop_numbers.specs.Sets.{Members, set_of, is_at_most_one_of, is_below}
use Rattle.prop_tms.specs.Beliefs.{Adds, Subsumes, joined_with}
use Rattle.prop_tms.specs.Kept.{IsGrownBy}
use Rattle.prop_contents.specs.Contents.{Entry, content_of, beliefs}

-- an entry was added to a cell
pub record AddsAt (old new : List (List Entry)) (cell : ℕ) (e : Entry) : Type 0 where
  pub same_length : length new ≡ length old
  pub adds : Adds Nothing merge_of (content_of old cell) (content_of new cell) e
  pub others : (c : ℕ) → c ≢ cell → content_of new c ≡ content_of old c

-- The entry was added to the cell: it stands there, joined with what entries on the same premises
-- said, and those that it then subsumes are gone. Or the cell stays.
abbrev pub StandsAt : List (List Entry) → List (List Entry) → ℕ → Entry → Type 0
StandsAt old new cell e =
    IsGrownBy (Subsumes Below (joined_with Nothing merge_of (content_of old cell) e))
    (content_of old cell) (content_of new cell)
    (joined_with Nothing merge_of (content_of old cell) e)

-- how many derived entries a cell may hold before some are dropped
abbrev pub most_derived : ℕ
most_derived = 8

-- the derived entries: those that rest on several premises, or on one that is none of these
abbrev pub derived_of : Members → List Entry → List Entry
derived_of told entries = filter (λ e. not (is_at_most_one_of told e.support)) entries

-- Entries of the cell may have been dropped, if it held too many derived ones, where `told` are the
-- premises under which something is stated of it. What the premises `s` believe stays as it was.
pub record TrimsAt (s told : Members) (old new : List (List Entry)) (cell : ℕ) : Type 0 where
  pub same_length : length new ≡ length old
  pub among : All (Contains (content_of old cell)) (content_of new cell)
  pub belief : beliefs s new cell ≡ beliefs s old cell
  pub few : length (derived_of told (content_of old cell)) ≤ most_derived
      → content_of new cell ≡ content_of old cell
  pub others : (c : ℕ) → c ≢ cell → content_of new c ≡ content_of old c

-- the contents, where the cell has only its entries with premises below this
abbrev pub entries_below : ℕ → List (List Entry) → ℕ → List (List Entry)
entries_below premise contents cell =
    slice_set contents cell (filter (λ e. is_below premise e.support) (content_of contents cell))

-- the entries that don't rest on p
abbrev pub not_on : ℕ → List Entry → List Entry
not_on p entries = filter (λ e. not (set_of e.support p)) entries
