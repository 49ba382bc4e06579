use Rattle.std.proofs.Common.{◌*ℤ◌, ◌^◌, pos, refl}
use Rattle.std.specs.Int.{int_max}
use Rattle.prop_intervals.proofs.WideLemmas.{product_of_ends, greatest_of_back, greatest_under, back_128, lo_fits}
use Rattle.prop_intervals.proofs.WideLemmas.{hi_fits}
use Rattle.prop_intervals.proofs.products.largest_product.Goals as goal

pub returns-clause-value : goal.returns-clause-value
returns-clause-value c =
    let x = c.args.x in
    let y = c.args.y in
    let a = product_of_ends c.lo.result c.lo-2.result x.lo y.lo c.product.result c.product.ensures.value c.lo.ensures
    c.lo-2.ensures (lo_fits x) (lo_fits y) in
    let b = product_of_ends c.lo-3.result c.hi.result x.lo y.hi c.product-2.result c.product-2.ensures.value
    c.lo-3.ensures c.hi.ensures (lo_fits x) (hi_fits y) in
    let d = product_of_ends c.hi-2.result c.lo-4.result x.hi y.lo c.product-3.result c.product-3.ensures.value
    c.hi-2.ensures c.lo-4.ensures (hi_fits x) (lo_fits y) in
    let e = product_of_ends c.hi-3.result c.hi-4.result x.hi y.hi c.product-4.result c.product-4.ensures.value
    c.hi-3.ensures c.hi-4.ensures (hi_fits x) (hi_fits y) in
    let low = greatest_of_back c.product.result c.product-2.result (x.lo *ℤ y.lo) (x.lo *ℤ y.hi) c.max-low.result
    c.product.type_inv c.product-2.type_inv c.max-low.ensures.value a b in
    let high = greatest_of_back c.product-3.result c.product-4.result (x.hi *ℤ y.lo) (x.hi *ℤ y.hi) c.max-high.result
    c.product-3.type_inv c.product-4.type_inv c.max-high.ensures.value d e in
    let all = greatest_of_back c.max-low.result c.max-high.result (int_max (x.lo *ℤ y.lo) (x.lo *ℤ y.hi))
    (int_max (x.hi *ℤ y.lo) (x.hi *ℤ y.hi)) c.max.result c.max-low.type_inv c.max-high.type_inv c.max.ensures.value
    low high in
    back_128 c.max.result (int_max (int_max (x.lo *ℤ y.lo) (x.lo *ℤ y.hi)) (int_max (x.hi *ℤ y.lo) (x.hi *ℤ y.hi)))
    c.max.type_inv all

pub returns-clause-greatest : goal.returns-clause-greatest
returns-clause-greatest c =
    let low = greatest_under c.product.result c.product-2.result c.max-low.result (pos (2 ^ 126)) c.product.type_inv
    c.product-2.type_inv c.max-low.ensures.value c.product.ensures.greatest c.product-2.ensures.greatest in
    let high = greatest_under c.product-3.result c.product-4.result c.max-high.result (pos (2 ^ 126))
    c.product-3.type_inv c.product-4.type_inv c.max-high.ensures.value c.product-3.ensures.greatest
    c.product-4.ensures.greatest in
    rw (back_128 c.max.result c.max.result c.max.type_inv refl)
    (greatest_under c.max-low.result c.max-high.result c.max.result (pos (2 ^ 126)) c.max-low.type_inv
    c.max-high.type_inv c.max.ensures.value low high)
