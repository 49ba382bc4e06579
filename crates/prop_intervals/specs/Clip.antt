-- Spans cut off at the largest magnitude.
use Rattle.std.specs.Prelude.{ℤ, neg_ℤ}
use Rattle.std.specs.Int.{int_max, int_min}
use Rattle.prop_lattice.specs.declared.span.TheConstants.{B}
use Rattle.prop_lattice.specs.Ends.{span_from}
use Rattle.prop_lattice.specs.declared.info.Info.{Info}

-- the numbers from lo to hi that are in range, a contradiction where there are none
unfoldable pub clip : ℤ → ℤ → Info
clip lo hi = span_from (int_max lo (neg_ℤ B)) (int_min hi B)
