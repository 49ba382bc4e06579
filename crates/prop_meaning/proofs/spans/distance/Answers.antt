use Rattle.std.proofs.Common.{arith}
use Rattle.std.proofs.lemmas.Int.{ints, clamps}
use Rattle.prop_meaning.proofs.Products.{holds_distance}
use Rattle.prop_meaning.proofs.spans.distance.Goals as goal

pub returns : goal.returns
returns c = holds_distance c.args.x _ _ _ (omega (arith, ints, clamps)) (omega (arith, ints, clamps)) c.new.ensures.ends
