use Rattle.std.proofs.Common.{arith}
use Rattle.std.proofs.lemmas.Int.{ints, clamps}
use Rattle.prop_meaning.proofs.Products.{holds_left}
use Rattle.prop_meaning.proofs.spans.left_by.Goals as goal

pub returns : goal.returns
returns c = holds_left c.args.y _ _ _ (omega (arith, ints, clamps)) (omega (arith, ints, clamps)) c.new.ensures.ends
