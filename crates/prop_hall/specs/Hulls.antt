-- What several informations all say, and an information without the points of another.
use Rattle.std.specs.Prelude.{ℕ, ◌-◌, ◌^◌, ℤ, pos, ◌+ℤ◌, ◌-ℤ◌, int_le, Bool, ◌==◌, ◌&&◌}
use Rattle.std.specs.Prelude.{if◌then◌else◌, List, [], ◌∷◌, bit_and, bit_or}
use Rattle.std.specs.Int.{w64, bit_not, int_max, int_min}
use Rattle.prop_lattice.specs.Ends.{span_from, elements_from}
use Rattle.prop_lattice.specs.Rank.{rank_of}
use Rattle.prop_lattice.specs.declared.info.Info.{Info}
use Rattle.prop_lattice.specs.declared.info.Info.TheVariants.{Nothing, Span, Set, Sym}
use Rattle.prop_lattice.specs.declared.info.Info.TheVariants.{Contradiction}
use Rattle.prop_lattice.specs.declared.info.Kind.TheVariants as kinds
use Rattle.prop_lattice.specs.declared.span.Span as spans

-- what both say: the highest information that says no more than either, and so holds the points of
-- both
abbrev pub hull_of_two : Info → Info → Info
hull_of_two Contradiction b = b
hull_of_two a Contradiction = a
hull_of_two (Span a) (Span b) = span_from (int_min a.lo b.lo) (int_max a.hi b.hi)
hull_of_two (Set a) (Set b) = elements_from (bit_or a.bits b.bits)
hull_of_two (Sym a) (Sym b) = if a == b then Sym a else Nothing
hull_of_two a b = Nothing

-- what all say: the highest information that holds the points of each, none where there are none
abbrev pub hull_of : List Info → Info
hull_of [] = Contradiction
hull_of (a ∷ rest) = hull_of_two a (hull_of rest)

-- how many points an information leaves, for nothing one more than for any span
abbrev pub points_in : Info → ℕ
points_in a = rank_of kinds.Span 0 a

-- the bits of all elements of a domain that has so many, and these elements
abbrev pub all_bits : ℕ → ℕ
all_bits size = 2 ^ size - 1

abbrev pub all_of : ℕ → Info
all_of size = elements_from (all_bits size)

-- what is left of so many elements, nothing where it is all of them
abbrev pub narrowed : ℕ → Info → Info
narrowed size (Set s) = if s.bits == all_bits size then Nothing else Set s
narrowed size a = a

-- ---- without some points

-- the number lies in the span
abbrev pub is_between : spans.Span → ℤ → Bool
is_between s v = int_le s.lo v && int_le v s.hi

-- the first and the last number of y outside of the hull, out of order where there is none
abbrev pub first_without : spans.Span → spans.Span → ℤ
first_without y hull = if is_between hull y.lo then hull.hi +ℤ pos 1 else y.lo

abbrev pub last_without : spans.Span → spans.Span → ℤ
last_without y hull = if is_between hull y.hi then hull.lo -ℤ pos 1 else y.hi

-- y without the points of the hull: a span keeps those inside of it
abbrev pub without_of : Info → Info → Info
without_of (Span y) (Span hull) = span_from (first_without y hull) (last_without y hull)
without_of (Set y) (Set hull) = elements_from (bit_and y.bits (bit_not w64 hull.bits))
without_of (Sym y) (Sym hull) = if y == hull then Contradiction else Sym y
without_of y hull = y
