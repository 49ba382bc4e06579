-- Which bits of a number are set.
use Rattle.std.specs.Prelude.{◌≡◌, ℕ}
use Rattle.std.specs.Int.{bit_at}

-- each bit that the second has, the first has
abbrev pub HasBitsOf : ℕ → ℕ → Type 0
HasBitsOf a b = (i : ℕ) → bit_at b i ≡ 1 → bit_at a i ≡ 1
