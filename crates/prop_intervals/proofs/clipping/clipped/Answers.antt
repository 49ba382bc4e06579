use Rattle.std.proofs.Common.{arith}
use Rattle.std.proofs.lemmas.Int.{ints, clamps}
use Rattle.prop_intervals.proofs.ClipLemmas.{clip_from, clip_none}
use Rattle.prop_intervals.proofs.clipping.clipped.Goals as goal

pub returns-then-lo-hi : goal.returns-then-lo-hi
returns-then-lo-hi c = clip_from _ _ _ _ _ c.between.ensures (omega (arith, ints, clamps)) (omega (arith, ints, clamps))

pub returns-else-lo-hi : goal.returns-else-lo-hi
returns-else-lo-hi c = clip_none _ _ (omega (arith, ints, clamps))
