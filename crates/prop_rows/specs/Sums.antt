-- Sums of products of numbers. The arguments stand in pairs, a factor c and a number x.
use Rattle.std.specs.Prelude.{ℤ, pos, neg_ℤ, ◌+ℤ◌, ◌-ℤ◌, ◌*ℤ◌, int_lt, int_le, ◌&&◌, List, ◌∷◌}
use Rattle.std.specs.Prelude.{if◌then◌else◌}
use Rattle.std.specs.Int.{int_max, int_min, int_div_euclid}
use Rattle.std.specs.Ordering.{int_eq}
use Rattle.prop_intervals.specs.Quotients.{int_div_ceil}
use Rattle.prop_lattice.specs.Points.{Point, Number}
use Rattle.prop_lattice.specs.declared.info.Info.{Info}
use Rattle.prop_lattice.specs.declared.info.Info.TheVariants.{Nothing, Contradiction}
use Rattle.prop_wide.specs.Ends.{low_of, high_of, known}

-- the one of the four products of an end of c and an end of x that is picked: the least or the
-- greatest
abbrev pub corner : (ℤ → ℤ → ℤ) → Info → Info → ℤ
corner pick c x = pick (pick (low_of c *ℤ low_of x) (low_of c *ℤ high_of x))
    (pick (high_of c *ℤ low_of x) (high_of c *ℤ high_of x))

-- the sum of the picked products over all pairs
abbrev pub total : (ℤ → ℤ → ℤ) → List Info → ℤ
total pick (c ∷ x ∷ pairs) = total pick pairs +ℤ corner pick c x
total pick pairs = pos 0

-- what is known of the sum of the products
abbrev pub sum_of : List Info → Info
sum_of pairs = known (total int_min pairs) (total int_max pairs)

-- the numbers whose product with c lies from a to b, where c is above zero
abbrev pub shares_of : ℤ → ℤ → ℤ → Info
shares_of a b c = known (int_div_ceil a c) (int_div_euclid b c)

-- the same for any c; where c is zero, that is each number or none
abbrev pub parts_of : ℤ → ℤ → ℤ → Info
parts_of a b c = if int_lt (pos 0) c then shares_of a b c
    else (if int_lt c (pos 0) then shares_of (neg_ℤ b) (neg_ℤ a) (neg_ℤ c)
    else (if int_le a (pos 0) && int_le (pos 0) b then Nothing else Contradiction))

-- What is known of a number where z is the sum of c times this number and of the products of the
-- pairs: nothing where c is not known.
abbrev pub addend_of : Info → Info → List Info → Info
addend_of z c pairs = if int_eq (low_of c) (high_of c)
    then parts_of (low_of z -ℤ total int_max pairs) (high_of z -ℤ total int_min pairs) (low_of c)
    else Nothing

-- what the products of pairs of points sum to
abbrev pub sum_at : List Point → ℤ
sum_at (Number c ∷ Number x ∷ pairs) = sum_at pairs +ℤ (c *ℤ x)
sum_at pairs = pos 0
