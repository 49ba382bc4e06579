use Rattle.std.proofs.Common.{arith}
use Rattle.std.proofs.lemmas.Int.{ints, clamps}
use Rattle.prop_meaning.proofs.Products.{holds_first, holds_second}
use Rattle.prop_meaning.proofs.spans.either.Goals as goal

pub returns : goal.returns
returns c = record {
  first = holds_first c.args.x c.args.y _ _ _ (omega (arith, ints, clamps))
      (omega (arith, ints, clamps)) c.new.ensures.ends;
  second = holds_second c.args.x c.args.y _ _ _ (omega (arith, ints, clamps))
      (omega (arith, ints, clamps)) c.new.ensures.ends;
}
