-- Square roots, rounded, and the spans of numbers at a distance from 0.
use Rattle.std.specs.Prelude.{ℕ, ◌*◌, ℤ, pos, neg_ℤ, nat_le, int_le, int_lt, if◌then◌else◌, Option}
use Rattle.std.specs.Int.{int_max, int_min}
use Rattle.std.proofs.Common.{zero, suc, negsuc}
use Rattle.prop_lattice.specs.Ends.{span_from}
use Rattle.prop_lattice.specs.declared.span.Span as spans
use Rattle.prop_lattice.specs.declared.info.Info.{Info}
use Rattle.prop_lattice.specs.declared.info.Info.TheVariants.{Contradiction}
use Rattle.prop_intervals.specs.Roots.{first_of, last_of}

-- the greatest number whose square is at most n
unfoldable pub root_floor : ℕ → ℕ
root_floor zero = zero
root_floor (suc n) =
    if nat_le (suc (root_floor n) * suc (root_floor n)) (suc n) then suc (root_floor n)
    else root_floor n

-- the least number, not below 0, whose square is at least m
unfoldable pub least_root : ℤ → ℕ
least_root (pos (suc n)) = suc (root_floor n)
least_root m = zero

-- the greatest number whose square is at most m, where that is not below 0
unfoldable pub greatest_root : ℤ → ℕ
greatest_root (pos n) = root_floor n
greatest_root (negsuc n) = zero

-- the span of the numbers from lo to hi whose distance from 0 is at least `least` and at most
-- `greatest`: it begins below 0 where there is such a number there, and ends above 0 where there is
-- one there
abbrev pub span_at_distance : ℤ → ℤ → ℤ → ℤ → Info
span_at_distance least greatest lo hi =
    span_from (if int_le (int_max lo (neg_ℤ greatest)) (int_min hi (neg_ℤ least)) then int_max lo
    (neg_ℤ greatest) else int_max lo least)
    (if int_le (int_max lo least) (int_min hi greatest) then int_min hi greatest else int_min hi
    (neg_ℤ least))

-- the roots of the numbers of y, of those of x or of the whole range where there is no x, by their
-- distance from 0
abbrev pub roots_at_distance : spans.Span → Option spans.Span → Info
roots_at_distance y x = if int_lt y.hi (pos 0) then Contradiction
    else span_at_distance (pos (least_root y.lo)) (pos (greatest_root y.hi)) (first_of x)
    (last_of x)
