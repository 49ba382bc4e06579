-- Words of bits, by number.
use Rattle.std.specs.Prelude.{◌≡◌, ℕ, ◌^◌, Bool, ◌==◌, ◌&&◌, List, slice_index, slice_set, bit_or}
use Rattle.std.specs.Int.{bit_at}
use Rattle.prop_sets.specs.Chosen.{bits_where, any_below}

-- the bit is set
abbrev pub is_set : ℕ → ℕ → Bool
is_set bits i = bit_at bits i == 1

-- one bit more in one of the words
abbrev pub with_bit : List ℕ → ℕ → ℕ → List ℕ
with_bit words i j = slice_set words i (bit_or (slice_index words i) (2 ^ j))

-- a word with the bits of the numbers below n that are paired with a number below m whose bit is
-- set
abbrev pub partner_bits : ℕ → ℕ → (ℕ → ℕ → Bool) → ℕ → ℕ
partner_bits n m paired bits = bits_where n (λ j. any_below m (λ i. is_set bits i && paired i j))

-- the bits of the words whose numbers are chosen, and no others
pub record IsUnionOf (words : List ℕ) (chosen union : ℕ) : Type 0 where
  pub from_words : (j : ℕ) → bit_at union j ≡ 1
      → (i : ℕ) × ((bit_at chosen i ≡ 1) × (bit_at (slice_index words i) j ≡ 1))
  pub from_each : (i j : ℕ) → bit_at chosen i ≡ 1 → bit_at (slice_index words i) j ≡ 1
      → bit_at union j ≡ 1
