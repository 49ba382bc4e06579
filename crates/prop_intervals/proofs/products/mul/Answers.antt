use Rattle.std.proofs.Common.{arith, ◌≡◌, ◌∙◌}
use Rattle.std.proofs.lemmas.Int.{ints}
use Rattle.prop_intervals.specs.laws.ClipLaws.{clip_is}
use Rattle.prop_intervals.specs.Quotients.{int_div_ceil}
use Rattle.prop_intervals.specs.inner.Parts.{int_div_floor}
use Rattle.prop_intervals.specs.Spans.{least_product, greatest_product, product_of}
use Rattle.prop_intervals.specs.laws.ProductLaws.{product_narrowest}
use Rattle.prop_intervals.proofs.WideLemmas.{back_128}
use Rattle.prop_intervals.proofs.products.mul.Goals as goal

value : (c : goal.After-clipped) → c.clipped.result ≡ product_of c.args.x c.args.y c.args.k
value c =
    let x = c.args.x in
    let y = c.args.y in
    let k = c.args.k in
    let low : c.div_floor-low.result ≡ int_div_floor (least_product x y) k = c.div_floor-low.ensures
    ∙ (λ t. int_div_floor (back_128 c.smallest_product.result (least_product x y) c.smallest_product.type_inv
    c.smallest_product.ensures t) (back_128 c.from.result k c.from.type_inv (omega (arith, ints)) t)) in
    let high : c.div_ceil-high.result ≡ int_div_ceil (greatest_product x y) k = c.div_ceil-high.ensures
    ∙ (λ t. int_div_ceil (back_128 c.largest_product.result (greatest_product x y) c.largest_product.type_inv
    c.largest_product.ensures.value t) (back_128 c.from-2.result k c.from-2.type_inv (omega (arith, ints)) t)) in
    clip_is _ _ _ _ _ c.clipped.ensures
    (back_128 c.div_floor-low.result (int_div_floor (least_product x y) k) c.div_floor-low.type_inv low)
    (back_128 c.div_ceil-high.result (int_div_ceil (greatest_product x y) k) c.div_ceil-high.type_inv high)

pub returns-clause-value : goal.returns-clause-value
returns-clause-value c = value c

pub returns-clause-narrowest : goal.returns-clause-narrowest
returns-clause-narrowest c e = rw (value c) (product_narrowest c.args.x c.args.y c.args.k c.requires.0 e)
