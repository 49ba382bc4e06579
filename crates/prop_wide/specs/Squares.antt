-- Squares and roots by a scale.
use Rattle.std.specs.Prelude.{ℤ, pos, ◌+ℤ◌, ◌-ℤ◌, ◌*ℤ◌, int_lt, if◌then◌else◌}
use Rattle.prop_intervals.specs.Relations.{IsProduct}
use Rattle.prop_intervals.specs.inner.Roots.{least_root, greatest_root}
use Rattle.prop_intervals.specs.Spans.{product_of}
use Rattle.prop_lattice.specs.declared.info.Info.{Info}
use Rattle.prop_lattice.specs.declared.info.Info.TheVariants.{Span, Contradiction}
use Rattle.prop_wide.specs.Distances.{abs_of, at_distance}
use Rattle.prop_wide.specs.Ends.{low_of, high_of}

-- y and the square of x, in units of 1/k, are less than a unit apart
abbrev pub IsSquareBy : ℤ → ℤ → ℤ → Type 0
IsSquareBy k x y = IsProduct k x x y

-- a distance times itself, by units of 1/k
abbrev pub times_itself : ℤ → Info → Info
times_itself k (Span d) = product_of d d k
times_itself k d = d

-- the square of x by units of 1/k: that of how far x is from zero
abbrev pub square_of : ℤ → Info → Info
square_of k x = times_itself k (abs_of x)

-- the least and the greatest that the square of x may be where y is that square by units of 1/k
abbrev pub least_square : ℤ → Info → ℤ
least_square k y = ((low_of y -ℤ pos 1) *ℤ k) +ℤ pos 1

abbrev pub greatest_square : ℤ → Info → ℤ
greatest_square k y = ((high_of y +ℤ pos 1) *ℤ k) -ℤ pos 1

-- x where y is its square by units of 1/k
abbrev pub root_of : ℤ → Info → Info → Info
root_of k y x =
    if int_lt (greatest_square k y) (pos 0) then Contradiction
    else at_distance x (pos (least_root (least_square k y)))
    (pos (greatest_root (greatest_square k y)))
