-- Sets of numbers as words of 64 bits: the bit of number p is bit p % 64 of word p / 64.
use Rattle.std.specs.Prelude.{◌≡◌, ℕ, ◌+◌, ◌*◌, ◌≤◌, IsTrue, List, length, slice_index}
use Rattle.prop_numbers.specs.Words.{has_bit, numbers_from}

-- the numbers whose bits are set, in order
abbrev pub numbers_of : List ℕ → List ℕ
numbers_of words = numbers_from 0 words

-- the words have the same bits
abbrev pub HaveSameBits : List ℕ → List ℕ → Type 0
HaveSameBits a b = (k : ℕ) → slice_index a k ≡ slice_index b k

-- one of the bits from word n on is set
abbrev pub HasFrom : List ℕ → ℕ → Type 0
HasFrom words n = (p : ℕ) × (64 * n ≤ p) × IsTrue (has_bit words p)

-- the last word has a bit
abbrev pub IsTrimmed : List ℕ → Type 0
IsTrimmed words = (n : ℕ) → length words ≡ n + 1 → HasFrom words n

-- The form of a set of numbers below 2^16, where the first bit is that of 64 * first.
pub record IsForm (first : ℕ) (words : List ℕ) : Type 0 where
  pub trimmed : IsTrimmed words
  pub in_range : first + length words ≤ 1_024
