-- What one or the other of two informations leaves.
use Rattle.std.specs.Prelude.{◌==◌, if◌then◌else◌, bit_or}
use Rattle.std.specs.Int.{int_max, int_min}
use Rattle.prop_lattice.specs.Ends.{span_from, elements_from}
use Rattle.prop_lattice.specs.declared.info.Info.{Info}
use Rattle.prop_lattice.specs.declared.info.Info.TheVariants.{Nothing, Span, Set, Sym}
use Rattle.prop_lattice.specs.declared.info.Info.TheVariants.{Contradiction}
use Rattle.prop_wide.specs.Ends.{known}

-- the most that can be said where one of the two is true
abbrev pub hull_of : Info → Info → Info
hull_of Contradiction b = b
hull_of a Contradiction = a
hull_of (Span a) (Span b) = span_from (int_min a.lo b.lo) (int_max a.hi b.hi)
hull_of (Set a) (Set b) = elements_from (bit_or a.bits b.bits)
hull_of (Sym a) (Sym b) = if a == b then Sym a else Nothing
hull_of a b = Nothing

-- the same, nothing where it is all numbers in range
abbrev pub narrowed : Info → Info
narrowed (Span a) = known a.lo a.hi
narrowed a = a
