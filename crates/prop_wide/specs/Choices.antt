-- One of two values, as a truth says.
use Rattle.std.specs.Prelude.{Bool, not, if◌then◌else◌}
use Rattle.prop_arith.specs.inner.Compared.{is_just}
use Rattle.prop_arith.specs.inner.Compared.{comparer_of}
use Rattle.prop_intervals.specs.Comparisons.{no_bits}
use Rattle.prop_lattice.specs.declared.info.Info.{Info}
use Rattle.prop_lattice.specs.declared.info.Info.TheVariants.{Contradiction}
use Rattle.prop_sets.specs.Truth.{leaves}
use Rattle.prop_wide.specs.Hulls.{hull_of}
use Rattle.prop_wide.specs.Truths.{told_of}

-- what is a where t, 0 for `yes`, is `yes`, and b where it is `no`
abbrev pub choose_of : Info → Info → Info → Info
choose_of t a b =
    hull_of (if leaves t 0 then a else Contradiction) (if leaves t 1 then b else Contradiction)

-- the two are not known to differ
abbrev pub agree : Info → Info → Bool
agree x y = not (is_just no_bits (comparer_of x y))

-- t where o is a if it is `yes`, and b if it is `no`
abbrev pub decide_of : Info → Info → Info → Info
decide_of a b o = told_of (agree a o) (agree b o)
