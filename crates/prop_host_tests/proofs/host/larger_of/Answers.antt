use Rattle.std.proofs.Common.{arith}
use Rattle.std.proofs.lemmas.Int.{ints, clamps}
use Rattle.prop_intervals.specs.laws.ClipLaws.{clip_is}
use Rattle.prop_host_tests.proofs.host.larger_of.Goals as goal

pub returns : goal.returns
returns c = clip_is _ _ _ _ _ c.clipped.ensures (omega (arith, ints, clamps)) (omega (arith, ints, clamps))
