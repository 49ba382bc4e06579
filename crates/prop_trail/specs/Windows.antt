-- Numbers that were ruled out.
use Rattle.std.specs.Prelude.{◌≡◌, ◌⊎◌, ℕ, zero, suc, ℤ, pos, ◌+◌, ◌-◌, ◌^◌, ◌&&◌, Bool, true}
use Rattle.std.specs.Prelude.{false, ◌-ℤ◌, ◌+ℤ◌, ◌≤ℤ◌, int_lt, int_le}
use Rattle.std.specs.Prelude.{unsigned_abs, bit_xor, if◌then◌else◌}
use Rattle.std.specs.Int.{bit_at}
use Rattle.prop_lattice.specs.declared.span.Span as spans
use Rattle.prop_lattice.specs.declared.info.Info.{Info}
use Rattle.prop_lattice.specs.declared.info.Info.TheVariants.{Span}

-- the numbers from the first to the last, and for each of them a bit, which is set where it was
-- ruled out
pub record Ruled : Type 0 where
  pub first : ℤ
  pub last : ℤ
  pub bits : ℕ

-- the number is one of them
abbrev pub Covers : Ruled → ℤ → Type 0
Covers w n = (w.first ≤ℤ n) × (n ≤ℤ w.last)

-- which bit is the number's
abbrev pub bit_of : Ruled → ℤ → ℕ
bit_of w n = unsigned_abs (n -ℤ w.first)

-- the number was ruled out
abbrev pub IsOut : Ruled → ℤ → Type 0
IsOut w n = Covers w n × (bit_at w.bits (bit_of w n) ≡ 1)

-- whether the number is one of them
abbrev pub covers : Ruled → ℤ → Bool
covers w n = int_le w.first n && int_le n w.last

-- the same with a bit turned, where there is cause to
abbrev pub turned : Bool → Ruled → ℕ → Ruled
turned true w k = record w { bits = bit_xor w.bits (2 ^ k) }
turned false w k = w

-- the same with the bit of the number turned
abbrev pub flipped : Ruled → ℤ → Ruled
flipped w n = turned (covers w n) w (bit_of w n)

-- no numbers
abbrev pub no_numbers : Ruled
no_numbers = record { first = pos 1; last = pos 0; bits = 0 }

-- the numbers of a span, where they are few
abbrev pub window_over : Bool → spans.Span → Ruled
window_over true s = record { first = s.lo; last = s.hi; bits = 0 }
window_over false s = no_numbers

-- the numbers of a span of 256 or fewer, and none for any other information
abbrev pub window_of : Info → Ruled
window_of (Span s) = window_over (int_lt (s.hi -ℤ s.lo) (pos 256)) s
window_of info = no_numbers

-- the number of a span can be ruled out: it is an end, or one that is kept
abbrev pub CanGo : Info → Ruled → ℤ → Type 0
CanGo (Span s) w n = (n ≡ s.lo) ⊎ (n ≡ s.hi) ⊎ Covers w n
CanGo info w n = ⊥

-- 1 for a number that was ruled out, and 0 for another
abbrev pub out_count : Ruled → ℤ → ℕ
out_count w n = if covers w n then bit_at w.bits (bit_of w n) else 0

-- how many numbers are left, so many from this one on
abbrev pub left_in : Ruled → ℤ → ℕ → ℕ
left_in w lo zero = 0
left_in w lo (suc n) = left_in w lo n + (1 - out_count w (lo +ℤ pos n))
