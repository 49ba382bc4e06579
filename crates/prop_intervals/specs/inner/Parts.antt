-- The parts of what the operations on spans answer, by name.
use Rattle.std.specs.Prelude.{ℤ, pos, neg_ℤ, ◌+ℤ◌, ◌-ℤ◌, ◌*ℤ◌, int_le, int_lt, ◌==◌}
use Rattle.std.specs.Prelude.{if◌then◌else◌}
use Rattle.std.specs.Int.{int_max, int_min, int_div_euclid}
use Rattle.prop_intervals.specs.Clip.{clip}
use Rattle.prop_intervals.specs.Comparisons.{yes_bits, no_bits}
use Rattle.prop_intervals.specs.Quotients.{int_div_ceil}
use Rattle.prop_intervals.specs.Spans.{holds_zero}
use Rattle.prop_lattice.specs.Ends.{span_from, elements_from}
use Rattle.prop_lattice.specs.declared.elements.Elements as sets
use Rattle.prop_lattice.specs.declared.info.Info.{Info}
use Rattle.prop_lattice.specs.declared.info.Info.TheVariants.{Nothing}
use Rattle.prop_lattice.specs.declared.span.Span as spans
use Rattle.prop_lattice.specs.declared.span.TheConstants.{B}

-- ---- squares

-- the least square of a number of x
abbrev pub least_square : spans.Span → ℤ
least_square x = if holds_zero x then pos 0 else int_min (x.lo *ℤ x.lo) (x.hi *ℤ x.hi)

-- the greatest square of a number of x
abbrev pub greatest_square : spans.Span → ℤ
greatest_square x = int_max (x.lo *ℤ x.lo) (x.hi *ℤ x.hi)

-- the squares of the numbers of x
abbrev pub square_of : spans.Span → Info
square_of x = clip (least_square x) (greatest_square x)

-- ---- quotients

-- the greatest number that times d, which is above 0, is at most a
abbrev pub int_div_floor : ℤ → ℤ → ℤ
int_div_floor a d = int_div_euclid a d

-- the least number above k times the number before z's least
abbrev pub least_dividend : spans.Span → ℤ → ℤ
least_dividend z k = (k *ℤ (z.lo -ℤ pos 1)) +ℤ pos 1

-- the greatest number below k times the number after z's greatest
abbrev pub greatest_dividend : spans.Span → ℤ → ℤ
greatest_dividend z k = (k *ℤ (z.hi +ℤ pos 1)) -ℤ pos 1

-- the least number that is at least a when multiplied by lo or by hi, where 0 < lo ≤ hi
abbrev pub least_factor : ℤ → ℤ → ℤ → ℤ
least_factor a lo hi = if int_lt (pos 0) a then int_div_ceil a hi else int_div_ceil a lo

-- the greatest number that is at most b when multiplied by lo or by hi, where 0 < lo ≤ hi
abbrev pub greatest_factor : ℤ → ℤ → ℤ → ℤ
greatest_factor b lo hi = if int_le (pos 0) b then int_div_floor b lo else int_div_floor b hi

-- ---- comparisons

-- whether a number of x is less than one of y
abbrev pub less_of : spans.Span → spans.Span → Info
less_of x y = if int_lt x.hi y.lo then elements_from yes_bits
    else (if int_le y.hi x.lo then elements_from no_bits else Nothing)

-- the numbers of which t says whether they are less than one of y
abbrev pub below_of : sets.Elements → spans.Span → Info
below_of t y = if t.bits == yes_bits then span_from (neg_ℤ B) (y.hi -ℤ pos 1)
    else (if t.bits == no_bits then span_from y.lo B else Nothing)

-- the numbers of which t says whether one of x is less than they are
abbrev pub above_of : sets.Elements → spans.Span → Info
above_of t x = if t.bits == yes_bits then span_from (x.lo +ℤ pos 1) B
    else (if t.bits == no_bits then span_from (neg_ℤ B) x.hi else Nothing)
