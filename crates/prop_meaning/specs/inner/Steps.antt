-- What a step of a draft makes of points.
use Rattle.std.specs.Prelude.{ℕ, ℤ, pos, neg_ℤ, ◌+ℤ◌, ◌-ℤ◌, ◌*ℤ◌, int_le, int_lt}
use Rattle.std.specs.Prelude.{Bool, false, cond, not, ◌&&◌, ◌||◌, ◌==◌, ◌<◌, ⊤, IsTrue}
use Rattle.std.specs.Prelude.{Option, Some, None}
use Rattle.std.specs.Int.{int_max, int_min}
use Rattle.prop_lattice.specs.Points.{Point, Element, Symbol}
use Rattle.prop_lattice.specs.Points as points
use Rattle.prop_terms.specs.declared.operators.Infix.TheVariants.{Remainder}
use Rattle.prop_terms.specs.Meaning.{quotient, computed}
use Rattle.prop_meaning.specs.declared.steps.Single as singles
use Rattle.prop_meaning.specs.declared.steps.Single.TheVariants.{Abs, Not}
use Rattle.prop_meaning.specs.declared.steps.Pair as pairs
use Rattle.prop_meaning.specs.declared.steps.Pair.TheVariants.{Sum, Difference, Product, Max, Min}
use Rattle.prop_meaning.specs.declared.steps.Pair.TheVariants.{Less, Same, And, Or}
use Rattle.prop_meaning.specs.declared.steps.Step.{Step}
use Rattle.prop_meaning.specs.declared.steps.Step.TheVariants as steps

-- `yes` is the element 0
abbrev pub truth_point : Bool → Point
truth_point b = Element (cond b 0 1)

abbrev pub same_point : Point → Point → Bool
same_point (points.Number x) (points.Number y) = int_le x y && int_le y x
same_point (Element i) (Element j) = i == j
same_point (Symbol m) (Symbol n) = m == n
same_point p q = false

abbrev pub of_one : singles.Single → Point → Point
of_one Abs (points.Number x) = points.Number (int_max x (neg_ℤ x))
of_one Not (Element t) = truth_point (not (t == 0))
of_one op p = p

abbrev pub of_two : pairs.Pair → Point → Point → Point
of_two Sum (points.Number x) (points.Number y) = points.Number (x +ℤ y)
of_two Difference (points.Number x) (points.Number y) = points.Number (x -ℤ y)
of_two Product (points.Number x) (points.Number y) = points.Number (x *ℤ y)
of_two Max (points.Number x) (points.Number y) = points.Number (int_max x y)
of_two Min (points.Number x) (points.Number y) = points.Number (int_min x y)
of_two Less (points.Number x) (points.Number y) = truth_point (int_lt x y)
of_two Same p q = truth_point (same_point p q)
of_two And (Element t) (Element u) = truth_point ((t == 0) && (u == 0))
of_two Or (Element t) (Element u) = truth_point ((t == 0) || (u == 0))
of_two op p q = p

abbrev pub chosen : Point → Point → Point → Point
chosen (Element t) p q = cond (t == 0) p q
chosen t p q = q

abbrev pub negative : Point → Point
negative p = of_two Difference (points.Number (pos 0)) p

-- ---- divisions

-- the number; or, where there is none, a point that is no number
abbrev pub number_or : Option ℤ → Point
number_or None = Symbol 0
number_or (Some z) = points.Number z

abbrev pub quotient_point : Point → Point → Point
quotient_point (points.Number x) (points.Number y) = number_or (quotient x y)
quotient_point p q = p

abbrev pub remainder_point : Point → Point → Point
remainder_point (points.Number x) (points.Number y) = number_or (computed Remainder x y)
remainder_point p q = p

-- a division by y may leave r: r lies from zero to y, and is not y
abbrev pub may_leave : ℤ → ℤ → Bool
may_leave y r = (int_le (pos 0) r && int_lt r y) || (int_lt y r && int_le r (pos 0))

-- what is left of x where p is taken away, if a division by y may leave that; or else no number
abbrev pub left_point : Point → Point → Point → Point
left_point (points.Number x) (points.Number p) (points.Number y) =
    number_or (cond (may_leave y (x -ℤ p)) (Some (x -ℤ p)) None)
left_point p q r = p

abbrev pub IsLeft : Point → Point → Point → Type 0
IsLeft (points.Number x) (points.Number p) (points.Number y) = IsTrue (may_leave y (x -ℤ p))
IsLeft p q r = ⊤

-- ---- steps

-- the point of the cell that the step makes, by the points of the cells before it
abbrev pub made_by : Step → (ℕ → Point) → Point
made_by (steps.Number z) a = points.Number z
made_by (steps.Element i) a = Element i
made_by (steps.Symbol n) a = Symbol n
made_by (steps.One op x) a = of_one op (a x)
made_by (steps.Two op x y) a = of_two op (a x) (a y)
made_by (steps.Choice t x y) a = chosen (a t) (a x) (a y)
made_by (steps.Quotient x y) a = quotient_point (a x) (a y)
made_by (steps.Left x p y) a = left_point (a x) (a p) (a y)

-- the cells of which the step is made stand before this place
abbrev pub IsBehind : ℕ → Step → Type 0
IsBehind place (steps.One op x) = x < place
IsBehind place (steps.Two op x y) = (x < place) × (y < place)
IsBehind place (steps.Choice t x y) = (t < place) × (x < place) × (y < place)
IsBehind place (steps.Quotient x y) = (x < place) × (y < place)
IsBehind place (steps.Left x p y) = (x < place) × (p < place) × (y < place)
IsBehind place s = ⊤
