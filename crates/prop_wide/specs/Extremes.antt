-- The larger and the smaller of two numbers.
use Rattle.std.specs.Prelude.{neg_ℤ, int_lt, if◌then◌else◌}
use Rattle.std.specs.Int.{int_max, int_min}
use Rattle.prop_lattice.specs.declared.span.TheConstants.{B}
use Rattle.prop_lattice.specs.declared.info.Info.{Info}
use Rattle.prop_lattice.specs.declared.info.Info.TheVariants.{Contradiction}
use Rattle.prop_wide.specs.Ends.{low_of, high_of, known}

-- the larger of x and y
abbrev pub max_of : Info → Info → Info
max_of x y = known (int_max (low_of x) (low_of y)) (int_max (high_of x) (high_of y))

-- x where z is the larger of x and y: no larger than z, and z where y must be smaller
abbrev pub max_back_of : Info → Info → Info
max_back_of z y =
    if int_lt (high_of z) (low_of y) then Contradiction
    else known (if int_lt (high_of y) (low_of z) then low_of z else neg_ℤ B) (high_of z)

-- the smaller of x and y
abbrev pub min_of : Info → Info → Info
min_of x y = known (int_min (low_of x) (low_of y)) (int_min (high_of x) (high_of y))

-- x where z is the smaller of x and y: no smaller than z, and z where y must be larger
abbrev pub min_back_of : Info → Info → Info
min_back_of z y =
    if int_lt (high_of y) (low_of z) then Contradiction
    else known (low_of z) (if int_lt (high_of z) (low_of y) then high_of z else B)
