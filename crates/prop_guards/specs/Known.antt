-- What is seen of an information at a glance.
use Rattle.std.specs.Prelude.{ℤ, Bool, Option, None, ◌||◌}
use Rattle.std.specs.Bool.{then_some}
use Rattle.std.specs.Ordering.{int_eq}
use Rattle.prop_intervals.specs.Comparisons.{yes_bits, no_bits}
use Rattle.prop_lattice.specs.Ends.{span_from}
use Rattle.prop_lattice.specs.declared.info.Info.{Info}
use Rattle.prop_lattice.specs.declared.info.Info.TheVariants.{Span}
use Rattle.prop_arith.specs.inner.Compared.{is_just}

-- the truth is just `yes` or just `no`
abbrev pub is_settled : Info → Bool
is_settled t = is_just yes_bits t || is_just no_bits t

-- the number that is the only one an information leaves
abbrev pub number_of : Info → Option ℤ
number_of (Span a) = then_some (int_eq a.lo a.hi) a.lo
number_of a = None

-- the information that leaves only this number
abbrev pub just : ℤ → Info
just v = span_from v v
