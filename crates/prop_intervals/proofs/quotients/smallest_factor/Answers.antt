use Rattle.std.proofs.Common.{arith, ◌≡◌, ◌∙◌, refl}
use Rattle.std.proofs.lemmas.Int.{ints}
use Rattle.prop_intervals.specs.Quotients.{int_div_ceil}
use Rattle.prop_intervals.proofs.WideLemmas.{back_128, factor_above, factor_not_above}
use Rattle.prop_intervals.proofs.quotients.smallest_factor.Goals as goal

pub returns-then-a-gt0 : goal.returns-then-a-gt0
returns-then-a-gt0 c =
    let a = c.args.a in
    let hi = c.args.hi in
    let is : c.div_ceil.result ≡ int_div_ceil a hi = c.div_ceil.ensures
    ∙ (λ t. int_div_ceil (back_128 a a c.ranges.a.sfits refl t)
    (back_128 c.from.result hi c.from.type_inv (omega (arith, ints)) t)) in
    back_128 c.div_ceil.result (int_div_ceil a hi) c.div_ceil.type_inv is
    ∙ factor_above a c.args.lo hi (omega (arith, ints))

pub returns-else-a-gt0 : goal.returns-else-a-gt0
returns-else-a-gt0 c =
    let a = c.args.a in
    let lo = c.args.lo in
    let is : c.div_ceil-else-a-gt0.result ≡ int_div_ceil a lo = c.div_ceil-else-a-gt0.ensures
    ∙ (λ t. int_div_ceil (back_128 a a c.ranges.a.sfits refl t)
    (back_128 c.from-else-a-gt0.result lo c.from-else-a-gt0.type_inv (omega (arith, ints)) t)) in
    back_128 c.div_ceil-else-a-gt0.result (int_div_ceil a lo) c.div_ceil-else-a-gt0.type_inv is
    ∙ factor_not_above a lo c.args.hi (omega (arith, ints))
