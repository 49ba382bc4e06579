-- What the rules that compare go by.
use Rattle.std.specs.Prelude.{Bool, true, false, ◌==◌, if◌then◌else◌, count_ones}
use Rattle.std.specs.Int.{w64, trailing_zeros}
use Rattle.std.specs.Ordering.{int_eq}
use Rattle.prop_intervals.specs.Comparisons as comparisons
use Rattle.prop_lattice.specs.declared.info.Info.{Info}
use Rattle.prop_lattice.specs.declared.info.Info.TheVariants.{Nothing, Span, Set, Sym}
use Rattle.prop_lattice.specs.declared.info.Info.TheVariants.{Contradiction}
use Rattle.prop_sets.specs.Others as others

-- the information leaves one point alone: one number, one element or a symbol
abbrev pub is_single : Info → Bool
is_single (Span a) = int_eq a.lo a.hi
is_single (Set s) = count_ones s.bits == 1
is_single (Sym a) = true
is_single a = false

-- what y leaves other than x, where x leaves one point alone; else nothing
abbrev pub others_of : Info → Info → Info
others_of (Span x) (Span y) = if int_eq x.lo x.hi then comparisons.without_of y x.lo else Nothing
others_of (Set x) (Set y) =
    if count_ones x.bits == 1 then others.without_of y (trailing_zeros w64 x.bits) else Nothing
others_of (Sym x) (Sym y) = if x == y then Contradiction else Sym y
others_of x y = Nothing
