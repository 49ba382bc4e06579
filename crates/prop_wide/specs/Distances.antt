-- How far numbers are from zero.
use Rattle.std.specs.Prelude.{◌≡◌, ℤ, pos, neg_ℤ}
use Rattle.std.specs.Int.{int_max}
use Rattle.prop_lattice.specs.Ends.{span_from}
use Rattle.prop_lattice.specs.declared.info.Info.{Info}
use Rattle.prop_wide.specs.Ends.{low_of, high_of, part_of}
use Rattle.prop_wide.specs.Hulls.{hull_of, narrowed}

-- y is how far x is from zero
abbrev pub IsDistance : ℤ → ℤ → Type 0
IsDistance x y = y ≡ int_max x (neg_ℤ x)

-- how far at least, and at most, x is from zero
abbrev pub least_distance : Info → ℤ
least_distance x = int_max (int_max (low_of x) (neg_ℤ (high_of x))) (pos 0)

abbrev pub greatest_distance : Info → ℤ
greatest_distance x = int_max (high_of x) (neg_ℤ (low_of x))

-- how far x is from zero
abbrev pub abs_of : Info → Info
abs_of x = span_from (least_distance x) (greatest_distance x)

-- the numbers of x that are as far from zero as near at least and far at most, below it or above
abbrev pub at_distance : Info → ℤ → ℤ → Info
at_distance x near far =
    narrowed (hull_of (part_of x (neg_ℤ far) (neg_ℤ near)) (part_of x near far))

-- x where y is how far it is from zero
abbrev pub abs_back_of : Info → Info → Info
abs_back_of y x = at_distance x (int_max (low_of y) (pos 0)) (high_of y)
