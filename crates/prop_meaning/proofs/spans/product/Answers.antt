use Rattle.prop_intervals.proofs.WideLemmas.{back_128}
use Rattle.prop_meaning.proofs.Products.{holds_product}
use Rattle.prop_meaning.proofs.spans.product.Goals as goal

pub returns : goal.returns
returns c = holds_product c.args.x c.args.y _ _ _
    (back_128 c.smallest_product.result _ c.smallest_product.type_inv c.smallest_product.ensures)
    (back_128 c.largest_product.result _ c.largest_product.type_inv c.largest_product.ensures) c.between.ensures
