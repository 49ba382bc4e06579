use Rattle.std.proofs.Common.{arith, ap, refl, sym, ◌∙◌}
use Rattle.std.proofs.lemmas.Int.{ints}
use Rattle.prop_intervals.specs.Spans.{factors_of}
use Rattle.prop_intervals.specs.inner.Parts.{least_dividend, greatest_dividend}
use Rattle.prop_intervals.proofs.WideLemmas.{back_128, back_64, opposite_128, opposite_64, lo_fits, hi_fits}
use Rattle.prop_intervals.specs.laws.DivisionLaws.{quotient_at_zero, quotient_above, quotient_below}
use Rattle.prop_intervals.specs.laws.SquareLaws.{below_zero}
use Rattle.prop_intervals.proofs.quotients.div.Goals as goal

pub returns-then-has_zero : goal.returns-then-has_zero
returns-then-has_zero c = quotient_at_zero c.args.z c.args.y c.args.k (sym c.has_zero.ensures ∙ c.if-has_zero.true)

pub factors-requires-clause-least : goal.factors-requires-clause-least
factors-requires-clause-least c = omega (arith, ints)

pub factors-requires-clause-greatest : goal.factors-requires-clause-greatest
factors-requires-clause-greatest c = omega (arith, ints)

pub overflow_sub-greatest : goal.overflow_sub-greatest
overflow_sub-greatest c = omega (arith, ints)

pub overflow_sub-least : goal.overflow_sub-least
overflow_sub-least c = omega (arith, ints)

pub overflow_sub-hi : goal.overflow_sub-hi
overflow_sub-hi c = omega (arith, ints)

pub factors-requires-else-lo-gt0-clause-least : goal.factors-requires-else-lo-gt0-clause-least
factors-requires-else-lo-gt0-clause-least c = omega (arith, ints)

pub factors-requires-else-lo-gt0-clause-greatest :
    goal.factors-requires-else-lo-gt0-clause-greatest
factors-requires-else-lo-gt0-clause-greatest c = omega (arith, ints)

pub factors-requires-else-lo-gt0-clause-positive :
    goal.factors-requires-else-lo-gt0-clause-positive
factors-requires-else-lo-gt0-clause-positive c =
    omega (arith, ints, below_zero c.args.y (sym c.has_zero.ensures ∙ c.if-has_zero.false) (omega (arith, ints)))

pub factors-requires-else-lo-gt0-clause-ordered : goal.factors-requires-else-lo-gt0-clause-ordered
factors-requires-else-lo-gt0-clause-ordered c = omega (arith, ints)

pub returns-then-lo-gt0 : goal.returns-then-lo-gt0
returns-then-lo-gt0 c =
    let z = c.args.z in
    let y = c.args.y in
    let k = c.args.k in
    let same_k = back_64 k k c.ranges.k refl in
    let least = back_128 c.smallest_dividend-least.result (least_dividend z k) c.smallest_dividend-least.type_inv
    (c.smallest_dividend-least.ensures.value ∙ ap (least_dividend z) same_k) in
    let greatest = back_128 c.largest_dividend-greatest.result (greatest_dividend z k)
    c.largest_dividend-greatest.type_inv
    (c.largest_dividend-greatest.ensures.value ∙ ap (greatest_dividend z) same_k) in
    let low = back_64 c.lo-then-lo-gt0.result y.lo (lo_fits y) c.lo-then-lo-gt0.ensures in
    let high = back_64 c.hi.result y.hi (hi_fits y) c.hi.ensures in
    c.factors.ensures ∙ (λ i. factors_of (least i) (greatest i) (low i) (high i))
    ∙ quotient_above z y k (sym c.has_zero.ensures ∙ c.if-has_zero.false) (omega (arith, ints))

pub returns-else-lo-gt0 : goal.returns-else-lo-gt0
returns-else-lo-gt0 c =
    let z = c.args.z in
    let y = c.args.y in
    let k = c.args.k in
    let same_k = back_64 k k c.ranges.k refl in
    let least = opposite_128 c.smallest_dividend-least.result (least_dividend z k)
    c.smallest_dividend-least.ensures.least c.smallest_dividend-least.ensures.greatest
    (c.smallest_dividend-least.ensures.value ∙ ap (least_dividend z) same_k) in
    let greatest = opposite_128 c.largest_dividend-greatest.result (greatest_dividend z k)
    c.largest_dividend-greatest.ensures.least c.largest_dividend-greatest.ensures.greatest
    (c.largest_dividend-greatest.ensures.value ∙ ap (greatest_dividend z) same_k) in
    let low = opposite_64 c.lo-else-lo-gt0.result y.lo c.lo-else-lo-gt0.ensures y.above (omega (arith, ints)) in
    let high = opposite_64 c.hi-else-lo-gt0.result y.hi c.hi-else-lo-gt0.ensures (omega (arith, ints)) y.below in
    c.factors-else-lo-gt0.ensures ∙ (λ i. factors_of (greatest i) (least i) (high i) (low i))
    ∙ quotient_below z y k (sym c.has_zero.ensures ∙ c.if-has_zero.false) (omega (arith, ints))
