-- Sets of numbers as words of 64 bits: the bit of number p is bit p % 64 of word p / 64.
use Rattle.std.specs.Prelude.{ℕ, ◌-◌, ◌*◌, ◌/◌, ◌%◌, Bool, ◌==◌, List, filter, length, slice_index}
use Rattle.std.specs.Int.{bit_at}
use Rattle.std.specs.List.{range_with_len}
use Rattle.prop_numbers.specs.Sets.{Members}

-- the bit is set
unfoldable pub is_set : ℕ → ℕ → Bool
is_set word i = bit_at word i == 1

-- the number's bit is set
unfoldable pub has_bit : List ℕ → Members
has_bit words p = is_set (slice_index words (p / 64)) (p % 64)

-- the numbers whose bits are set, in order, where the first bit is that of n
unfoldable pub numbers_from : ℕ → List ℕ → List ℕ
numbers_from n words = filter (λ p. has_bit words (p - n)) (range_with_len n (64 * length words))
