-- Truths that may be `yes` or `no`.
use Rattle.std.specs.Prelude.{Bool, true, false}
use Rattle.prop_intervals.specs.Comparisons.{yes_bits, no_bits}
use Rattle.prop_lattice.specs.Ends.{elements_from}
use Rattle.prop_lattice.specs.declared.info.Info.{Info}
use Rattle.prop_lattice.specs.declared.info.Info.TheVariants.{Nothing, Contradiction}

-- a truth that may be `yes` and may be `no` as is said
abbrev pub told_of : Bool → Bool → Info
told_of true true = Nothing
told_of true false = elements_from yes_bits
told_of false true = elements_from no_bits
told_of false false = Contradiction
