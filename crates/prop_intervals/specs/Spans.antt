-- What the operations on spans answer.
use Rattle.std.specs.Prelude.{Bool, ℤ, pos, neg_ℤ, ◌+ℤ◌, ◌-ℤ◌, ◌*ℤ◌, int_le, int_lt, ◌&&◌}
use Rattle.std.specs.Prelude.{if◌then◌else◌}
use Rattle.std.specs.Int.{int_max, int_min, int_div_euclid}
use Rattle.prop_intervals.specs.Clip.{clip}
use Rattle.prop_intervals.specs.Quotients.{int_div_ceil}
use Rattle.prop_lattice.specs.declared.span.Span as spans
use Rattle.prop_lattice.specs.declared.info.Info.{Info}
use Rattle.prop_lattice.specs.declared.info.Info.TheVariants.{Nothing}

abbrev pub sum_of : spans.Span → spans.Span → Info
sum_of a b = clip (a.lo +ℤ b.lo) (a.hi +ℤ b.hi)

abbrev pub difference_of : spans.Span → spans.Span → Info
difference_of z x = clip (z.lo -ℤ x.hi) (z.hi -ℤ x.lo)

-- whether zero lies in x
abbrev pub holds_zero : spans.Span → Bool
holds_zero x = int_le x.lo (pos 0) && int_le (pos 0) x.hi

-- ---- products

-- of the products of an end of x and an end of y the one that is picked
abbrev pub end_product : (ℤ → ℤ → ℤ) → spans.Span → spans.Span → ℤ
end_product pick x y =
    pick (pick (x.lo *ℤ y.lo) (x.lo *ℤ y.hi)) (pick (x.hi *ℤ y.lo) (x.hi *ℤ y.hi))

abbrev pub least_product : spans.Span → spans.Span → ℤ
least_product = end_product int_min

abbrev pub greatest_product : spans.Span → spans.Span → ℤ
greatest_product = end_product int_max

-- the products by units of 1/k, rounded outwards
abbrev pub product_of : spans.Span → spans.Span → ℤ → Info
product_of x y k = clip (int_div_euclid (end_product int_min x y) k)
    (int_div_ceil (end_product int_max x y) k)

-- ---- quotients

-- the numbers from the least that is at least a when multiplied by lo or by hi to the greatest that
-- is at most b when it is, where 0 < lo ≤ hi
abbrev pub factors_of : ℤ → ℤ → ℤ → ℤ → Info
factors_of a b lo hi = clip (if int_lt (pos 0) a then int_div_ceil a hi else int_div_ceil a lo)
    (if int_le (pos 0) b then int_div_euclid b lo else int_div_euclid b hi)

-- the quotients of z by y, where a product and a number of z are less than a unit of 1/k apart: the
-- products are above k times the number before z's least, and below k times that after its greatest
abbrev pub quotient_of : spans.Span → spans.Span → ℤ → Info
quotient_of z y k =
    let least = (k *ℤ (z.lo -ℤ pos 1)) +ℤ pos 1 in
    let greatest = (k *ℤ (z.hi +ℤ pos 1)) -ℤ pos 1 in
    if holds_zero y then Nothing
    else (if int_lt (pos 0) y.lo then factors_of least greatest y.lo y.hi
    else factors_of (neg_ℤ greatest) (neg_ℤ least) (neg_ℤ y.hi) (neg_ℤ y.lo))
