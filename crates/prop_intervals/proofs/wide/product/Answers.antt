use Rattle.std.proofs.Common.{arith, to_z, of_z}
use Rattle.std.specs.Int.{w128}
use Rattle.std.proofs.lemmas.Int.{ints}
use Rattle.prop_intervals.proofs.WideLemmas.{product_least, product_greatest}
use Rattle.prop_intervals.proofs.wide.product.Goals as goal

pub returns-clause-least : goal.returns-clause-least
returns-clause-least c = product_least c.args.a c.args.b (to_z w128 (of_z w128 c.from.result))
    (to_z w128 (of_z w128 c.from-2.result)) c.ranges.a c.ranges.b (omega (arith, ints)) (omega (arith, ints))

pub returns-clause-greatest : goal.returns-clause-greatest
returns-clause-greatest c = product_greatest c.args.a c.args.b (to_z w128 (of_z w128 c.from.result))
    (to_z w128 (of_z w128 c.from-2.result)) c.ranges.a c.ranges.b (omega (arith, ints)) (omega (arith, ints))
