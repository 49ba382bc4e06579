use Rattle.std.proofs.Common.{◌*ℤ◌}
use Rattle.std.specs.Int.{int_max}
use Rattle.prop_intervals.proofs.WideLemmas.{product_of_ends, greatest_of_back, back_128}
use Rattle.prop_rows.specs.Sums.{corner}
use Rattle.prop_rows.proofs.CornerLemmas.{corners_small, low_fits, high_fits}
use Rattle.prop_wide.specs.Ends.{low_of, high_of}
use Rattle.prop_rows.proofs.sums.largest.Goals as goal

pub returns-clause-value : goal.returns-clause-value
returns-clause-value c =
    let k = c.args.c in
    let x = c.args.x in
    let a = product_of_ends c.low_of.result c.low_of-2.result (low_of k) (low_of x) c.product.result
    c.product.ensures.value c.low_of.ensures.value c.low_of-2.ensures.value (low_fits k) (low_fits x) in
    let b = product_of_ends c.low_of-3.result c.high_of.result (low_of k) (high_of x) c.product-2.result
    c.product-2.ensures.value c.low_of-3.ensures.value c.high_of.ensures.value (low_fits k) (high_fits x) in
    let d = product_of_ends c.high_of-2.result c.low_of-4.result (high_of k) (low_of x) c.product-3.result
    c.product-3.ensures.value c.high_of-2.ensures.value c.low_of-4.ensures.value (high_fits k) (low_fits x) in
    let e = product_of_ends c.high_of-3.result c.high_of-4.result (high_of k) (high_of x) c.product-4.result
    c.product-4.ensures.value c.high_of-3.ensures.value c.high_of-4.ensures.value (high_fits k) (high_fits x) in
    let low = greatest_of_back c.product.result c.product-2.result (low_of k *ℤ low_of x) (low_of k *ℤ high_of x)
    c.max-low.result c.product.type_inv c.product-2.type_inv c.max-low.ensures.value a b in
    let high = greatest_of_back c.product-3.result c.product-4.result (high_of k *ℤ low_of x) (high_of k *ℤ high_of x)
    c.max-high.result c.product-3.type_inv c.product-4.type_inv c.max-high.ensures.value d e in
    let all = greatest_of_back c.max-low.result c.max-high.result
    (int_max (low_of k *ℤ low_of x) (low_of k *ℤ high_of x))
    (int_max (high_of k *ℤ low_of x) (high_of k *ℤ high_of x)) c.max.result c.max-low.type_inv c.max-high.type_inv
    c.max.ensures.value low high in
    back_128 c.max.result (corner int_max k x) c.max.type_inv all

pub returns-clause-least : goal.returns-clause-least
returns-clause-least c = rw (returns-clause-value c) (corners_small c.args.c c.args.x).1.0

pub returns-clause-greatest : goal.returns-clause-greatest
returns-clause-greatest c = rw (returns-clause-value c) (corners_small c.args.c c.args.x).1.1
