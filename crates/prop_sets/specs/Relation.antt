-- Relations between two domains, as sets of pairs.
use Rattle.std.specs.Prelude.{◌≡◌, ℕ, ◌<◌, ◌^◌, List, length, slice_index, slice_set, bit_or}
use Rattle.std.specs.Prelude.{replicate, ◌↔◌, ◌⊎◌}
use Rattle.std.specs.Int.{bit_at}
use Rattle.prop_sets.specs.declared.side.Side as sides

-- the two domains, and for each element of the first a word with the bits of its partners in the
-- second
pub record Relation : Type 0 where
  pub from : sides.Side
  pub to : sides.Side
  pub rows : List ℕ

-- element i of the first domain and element j of the second are a pair
pub record HasPair (m : Relation) (i j : ℕ) : Type 0 where
  pub first : i < m.from.size
  pub second : j < m.to.size
  pub partners : bit_at (slice_index m.rows i) j ≡ 1

-- one word for each element of the first domain, and in it no bits but those of elements of the
-- second
pub record IsWhole (m : Relation) : Type 0 where
  pub each_has_one : length m.rows ≡ m.from.size
  pub in_range : (i j : ℕ) → bit_at (slice_index m.rows i) j ≡ 1 → j < m.to.size

-- a relation without pairs
abbrev pub no_pairs : sides.Side → sides.Side → Relation
no_pairs a b = record { from = a; to = b; rows = replicate a.size 0 }

-- one pair more
abbrev pub with_pair : Relation → ℕ → ℕ → Relation
with_pair m i j = record m { rows = slice_set m.rows i (bit_or (slice_index m.rows i) (2 ^ j)) }

-- the pairs of the second are those of the first and (i, j)
abbrev pub AddsPair : Relation → Relation → ℕ → ℕ → Type 0
AddsPair m n i j = (a b : ℕ) → HasPair n a b ↔ (HasPair m a b ⊎ ((a ≡ i) × (b ≡ j)))
