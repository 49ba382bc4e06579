-- The ends of what is known of a number.
use Rattle.std.specs.Prelude.{ℤ, neg_ℤ, int_le, ◌&&◌, if◌then◌else◌}
use Rattle.std.specs.Int.{int_max, int_min}
use Rattle.prop_intervals.specs.Clip.{clip}
use Rattle.prop_lattice.specs.declared.span.TheConstants.{B}
use Rattle.prop_lattice.specs.declared.info.Info.{Info}
use Rattle.prop_lattice.specs.declared.info.Info.TheVariants.{Nothing, Span}

-- the least number that it may be: any in range where nothing is known
abbrev pub low_of : Info → ℤ
low_of (Span a) = a.lo
low_of a = neg_ℤ B

-- the greatest number that it may be
abbrev pub high_of : Info → ℤ
high_of (Span a) = a.hi
high_of a = B

-- the numbers of x from lo to hi, a contradiction where there are none
unfoldable pub part_of : Info → ℤ → ℤ → Info
part_of x lo hi = clip (int_max (low_of x) lo) (int_min (high_of x) hi)

-- the numbers in range from lo to hi, a contradiction where there are none; nothing where these are
-- all numbers in range
unfoldable pub known : ℤ → ℤ → Info
known lo hi = if int_le lo (neg_ℤ B) && int_le B hi then Nothing else clip lo hi
