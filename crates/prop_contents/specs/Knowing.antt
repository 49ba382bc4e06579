-- A record of what is believed of cells, as far as it is known.
use Rattle.std.specs.Prelude.{◌≡◌, ◌<◌, ◌≤◌, ℕ, List, Option, Some, None, slice_index_or}
use Rattle.prop_lattice.specs.declared.info.Info.{Info}
use Rattle.prop_numbers.specs.Sets.{Members}
use Rattle.prop_contents.specs.Contents.{Entry, beliefs}

-- what is known of a cell; nothing where the record has no place for it
abbrev pub known_at : List (Option Info) → ℕ → Option Info
known_at known cell = slice_index_or known cell None

-- where something is known of a cell, it is what is believed of it
abbrev pub AreBeliefs : Members → List (List Entry) → List (Option Info) → Type 0
AreBeliefs s contents known = (cell : ℕ) (info : Info) → known_at known cell ≡ Some info
    → beliefs s contents cell ≡ info

-- The record is gone through when other premises are believed than before. Where something is known
-- of a cell below n, it is what the premises `after` believe of it; of another cell, what those
-- `before` did.
pub record ArePassed (n : ℕ) (before after : Members) (contents : List (List Entry))
    (known : List (Option Info)) : Type 0 where
  pub passed : (cell : ℕ) (info : Info) → cell < n → known_at known cell ≡ Some info
      → beliefs after contents cell ≡ info
  pub ahead : (cell : ℕ) (info : Info) → n ≤ cell → known_at known cell ≡ Some info
      → beliefs before contents cell ≡ info
