-- What comparing spans answers.
use Rattle.std.specs.Prelude.{◌≢◌, ℕ, ℤ, pos, neg_ℤ, ◌+ℤ◌, ◌-ℤ◌, ◌≤ℤ◌, int_lt, int_le, ◌==◌}
use Rattle.std.specs.Prelude.{if◌then◌else◌}
use Rattle.std.specs.Ordering.{int_eq}
use Rattle.prop_lattice.specs.declared.span.TheConstants.{B}
use Rattle.prop_lattice.specs.Ends.{span_from, elements_from}
use Rattle.prop_lattice.specs.declared.elements.Elements as sets
use Rattle.prop_lattice.specs.declared.span.Span as spans
use Rattle.prop_lattice.specs.declared.info.Info.{Info}
use Rattle.prop_lattice.specs.declared.info.Info.TheVariants.{Nothing, Span}

-- The truths `yes` and `no` are the elements 0 and 1 of their domain: the bits of `yes` alone and
-- of `no` alone
abbrev pub yes_bits : ℕ
yes_bits = 1

abbrev pub no_bits : ℕ
no_bits = 2

-- v is a number of y other than x
abbrev pub IsOther : spans.Span → ℤ → ℤ → Type 0
IsOther y x v = (y.lo ≤ℤ v) × (v ≤ℤ y.hi) × (v ≢ x)

-- y without x, which leaves a gap unless x is an end
abbrev pub without_of : spans.Span → ℤ → Info
without_of y x = if int_eq y.lo x then span_from (y.lo +ℤ pos 1) y.hi
    else (if int_eq y.hi x then span_from y.lo (y.hi -ℤ pos 1) else Span y)
