use Rattle.std.proofs.Common.{arith}
use Rattle.std.proofs.lemmas.Int.{ints, clamps}
use Rattle.prop_wide.proofs.SameEnds.{span_from_is}
use Rattle.prop_wide.proofs.distances.absoluter.Goals as goal

pub returns : goal.returns
returns c = span_from_is _ _ _ _ _ c.between.ensures (omega (arith, ints, clamps)) (omega (arith, ints, clamps))
