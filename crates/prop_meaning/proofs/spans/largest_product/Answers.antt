use Rattle.std.proofs.Common.{◌*ℤ◌}
use Rattle.std.specs.Int.{int_max}
use Rattle.prop_intervals.proofs.WideLemmas.{product_of_ends, greatest_of_back, back_128, lo_fits}
use Rattle.prop_intervals.proofs.WideLemmas.{hi_fits}
use Rattle.prop_meaning.proofs.spans.largest_product.Goals as goal

pub returns : goal.returns
returns c =
    let x = c.args.x in
    let y = c.args.y in
    let a = product_of_ends c.lo.result c.lo-2.result x.lo y.lo c.multiplied.result c.multiplied.ensures c.lo.ensures
    c.lo-2.ensures (lo_fits x) (lo_fits y) in
    let b = product_of_ends c.lo-3.result c.hi.result x.lo y.hi c.multiplied-2.result c.multiplied-2.ensures
    c.lo-3.ensures c.hi.ensures (lo_fits x) (hi_fits y) in
    let d = product_of_ends c.hi-2.result c.lo-4.result x.hi y.lo c.multiplied-3.result c.multiplied-3.ensures
    c.hi-2.ensures c.lo-4.ensures (hi_fits x) (lo_fits y) in
    let e = product_of_ends c.hi-3.result c.hi-4.result x.hi y.hi c.multiplied-4.result c.multiplied-4.ensures
    c.hi-3.ensures c.hi-4.ensures (hi_fits x) (hi_fits y) in
    let low = greatest_of_back c.multiplied.result c.multiplied-2.result (x.lo *ℤ y.lo) (x.lo *ℤ y.hi) c.max-low.result
    c.multiplied.type_inv c.multiplied-2.type_inv c.max-low.ensures.value a b in
    let high = greatest_of_back c.multiplied-3.result c.multiplied-4.result (x.hi *ℤ y.lo)
    (x.hi *ℤ y.hi) c.max-high.result
    c.multiplied-3.type_inv c.multiplied-4.type_inv c.max-high.ensures.value d e in
    let all = greatest_of_back c.max-low.result c.max-high.result (int_max (x.lo *ℤ y.lo) (x.lo *ℤ y.hi))
    (int_max (x.hi *ℤ y.lo) (x.hi *ℤ y.hi)) c.max.result c.max-low.type_inv c.max-high.type_inv c.max.ensures.value
    low high in
    back_128 c.max.result (int_max (int_max (x.lo *ℤ y.lo) (x.lo *ℤ y.hi)) (int_max (x.hi *ℤ y.lo) (x.hi *ℤ y.hi)))
    c.max.type_inv all
