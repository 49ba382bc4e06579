use Rattle.std.proofs.Common.{arith}
use Rattle.std.proofs.lemmas.Int.{ints}
use Rattle.prop_rows.proofs.CornerLemmas.{product_back}
use Rattle.prop_rows.proofs.sums.product.Goals as goal

pub returns-clause-least : goal.returns-clause-least
returns-clause-least c = (product_back c.args.a c.args.b c.requires.a.0 c.requires.a.1 c.requires.b.0 c.requires.b.1
    c.from.result c.from-2.result c.from.type_inv c.from-2.type_inv (omega (arith, ints)) (omega (arith, ints))).0

pub returns-clause-greatest : goal.returns-clause-greatest
returns-clause-greatest c = (product_back c.args.a c.args.b c.requires.a.0 c.requires.a.1 c.requires.b.0
    c.requires.b.1 c.from.result c.from-2.result c.from.type_inv c.from-2.type_inv (omega (arith, ints))
    (omega (arith, ints))).1
