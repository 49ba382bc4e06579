-- Square roots.
use Rattle.std.specs.Prelude.{◌+◌, ◌&&◌, ℤ, pos, neg_ℤ, ◌+ℤ◌, ◌-ℤ◌, ◌*ℤ◌, ◌≤ℤ◌, int_le}
use Rattle.std.specs.Prelude.{unsigned_abs, Option, Some, None}
use Rattle.std.specs.List.{position_or_len, range_with_len}
use Rattle.prop_lattice.specs.declared.span.TheConstants.{B}
use Rattle.prop_lattice.specs.Ends.{span_from}
use Rattle.prop_lattice.specs.declared.span.Span as spans
use Rattle.prop_lattice.specs.declared.info.Info.{Info}

-- the ends of x, and those of the whole range where there is no x
abbrev pub first_of : Option spans.Span → ℤ
first_of None = neg_ℤ B
first_of (Some x) = x.lo

abbrev pub last_of : Option spans.Span → ℤ
last_of None = B
last_of (Some x) = x.hi

-- v is a number of x, or of the whole range where there is no x, and its square is one of y
pub record IsRoot (y : spans.Span) (x : Option spans.Span) (v : ℤ) : Type 0 where
  pub from : first_of x ≤ℤ v
  pub to : v ≤ℤ last_of x
  pub square_from : y.lo ≤ℤ (v *ℤ v)
  pub square_to : (v *ℤ v) ≤ℤ y.hi

-- the numbers from lo to hi whose square is in y: the span from the first that is met on the way up
-- from lo to the first that is met on the way down from hi, a contradiction where there is none
unfoldable pub roots_between : spans.Span → ℤ → ℤ → Info
roots_between y lo hi =
    let is_root = λ (v : ℤ). int_le y.lo (v *ℤ v) && int_le (v *ℤ v) y.hi in
    let steps = range_with_len 0 (unsigned_abs (hi -ℤ lo) + 1) in
    span_from (lo +ℤ pos (position_or_len (λ n. is_root (lo +ℤ pos n)) steps))
    (hi -ℤ pos (position_or_len (λ n. is_root (hi -ℤ pos n)) steps))

-- the same of those of x, or of the whole range where there is no x
abbrev pub root_of : spans.Span → Option spans.Span → Info
root_of y x = roots_between y (first_of x) (last_of x)
