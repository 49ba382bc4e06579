-- Quotients that are rounded down, and what they leave.
use Rattle.std.specs.Prelude.{Bool, ℤ, pos, neg_ℤ, ◌+ℤ◌, ◌-ℤ◌, ◌*ℤ◌, ◌≤ℤ◌, ◌<ℤ◌, ◌⊎◌, ◌&&◌, int_le}
use Rattle.std.specs.Prelude.{int_lt, if◌then◌else◌}
use Rattle.std.specs.Int.{int_max, int_min}
use Rattle.prop_intervals.specs.Clip.{clip}
use Rattle.prop_intervals.specs.inner.Parts.{int_div_floor}
use Rattle.prop_lattice.specs.declared.span.TheConstants.{B}
use Rattle.prop_lattice.specs.declared.info.Info.{Info}
use Rattle.prop_lattice.specs.declared.info.Info.TheVariants.{Contradiction}
use Rattle.prop_wide.specs.Ends.{low_of, high_of, known, part_of}
use Rattle.prop_wide.specs.Hulls.{hull_of, narrowed}

-- ---- what belongs together

-- q is x divided by y and rounded down, which it never is where y is zero
abbrev pub IsQuotient : ℤ → ℤ → ℤ → Type 0
IsQuotient x y q =
    ((pos 0 <ℤ y) × ((q *ℤ y) ≤ℤ x) × (x <ℤ ((q *ℤ y) +ℤ y)))
    ⊎ ((y <ℤ pos 0) × (x ≤ℤ (q *ℤ y)) × (((q *ℤ y) +ℤ y) <ℤ x))

-- r may be left by y: it lies from zero to y, and is not y
abbrev pub IsRemainder : ℤ → ℤ → Type 0
IsRemainder y r = ((pos 0 ≤ℤ r) × (r <ℤ y)) ⊎ ((y <ℤ r) × (r ≤ℤ pos 0))

-- ---- quotients

-- the least quotient of lo by a number from first to last, where these are above zero
abbrev pub least_quotient : ℤ → ℤ → ℤ → ℤ
least_quotient lo first last =
    if int_le (pos 0) lo then int_div_floor lo last else int_div_floor lo first

-- the greatest quotient of hi
abbrev pub greatest_quotient : ℤ → ℤ → ℤ → ℤ
greatest_quotient hi first last =
    if int_le (pos 0) hi then int_div_floor hi first else int_div_floor hi last

-- the quotients of the numbers from lo to hi by those from first to last, where these are above
-- zero
unfoldable pub quotients_of : ℤ → ℤ → ℤ → ℤ → Info
quotients_of lo hi first last =
    if int_lt last first then Contradiction
    else clip (least_quotient lo first last) (greatest_quotient hi first last)

-- x divided by y: by what is above zero, or the opposite of x by the opposite of what is below
abbrev pub quotient_of : Info → Info → Info
quotient_of x y = narrowed
    (hull_of (quotients_of (low_of x) (high_of x) (int_max (low_of y) (pos 1)) (high_of y))
    (quotients_of (neg_ℤ (high_of x)) (neg_ℤ (low_of x)) (int_max (neg_ℤ (high_of y)) (pos 1))
    (neg_ℤ (low_of y))))

-- ---- remainders

-- the number that lies from lo to hi is zero
abbrev pub is_zero : ℤ → ℤ → Bool
is_zero lo hi = int_le (pos 0) lo && int_le hi (pos 0)

-- what y may leave: a contradiction where y is zero
abbrev pub remainder_of : Info → Info
remainder_of y =
    if is_zero (low_of y) (high_of y) then Contradiction
    else known (int_min (low_of y +ℤ pos 1) (pos 0)) (int_max (high_of y -ℤ pos 1) (pos 0))

-- the numbers of y above zero that may leave r: none where r is below zero
abbrev pub divisors_above : Info → Info → Info
divisors_above r y =
    if int_lt (high_of r) (pos 0) then Contradiction
    else part_of y (int_max (low_of r) (pos 0) +ℤ pos 1) B

-- the numbers of y below zero that may leave r: none where r is above zero
abbrev pub divisors_below : Info → Info → Info
divisors_below r y =
    if int_lt (pos 0) (low_of r) then Contradiction
    else part_of y (neg_ℤ B) (int_min (high_of r) (pos 0) -ℤ pos 1)

-- the numbers of y, not zero, that may leave r
abbrev pub divisor_of : Info → Info → Info
divisor_of r y = narrowed (hull_of (divisors_above r y) (divisors_below r y))
