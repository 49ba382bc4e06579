use Rattle.std.proofs.Common.{◌≡◌, ◌∙◌, ap, neg_ℤ, refl, arith, ℤ}
use Rattle.std.proofs.lemmas.Int.{ints}
use Rattle.prop_intervals.specs.Quotients.{int_div_ceil}
use Rattle.prop_intervals.specs.inner.Parts.{int_div_floor}
use Rattle.prop_intervals.proofs.WideLemmas.{opposite_quotient, back_128}
use Rattle.prop_rows.proofs.CornerLemmas.{known_is, opposite_back}
use Rattle.prop_rows.proofs.sums.shares.Goals as goal

pub returns : goal.returns
returns c =
    let a = c.args.a in
    let d = c.args.c in
    let floor = opposite_quotient a d _ _ c.div_euclid.result c.requires.above c.requires.least c.requires.greatest
    (opposite_back a c.requires.least c.requires.greatest) (back_128 d d c.ranges.c.sfits refl)
    c.div_euclid.ensures in
    known_is _ _ (int_div_ceil a d) (int_div_floor c.args.b d) _ c.known.ensures
    (opposite_back c.div_euclid.result floor.1 floor.2 ∙ ap neg_ℤ floor.0 ∙ twice (int_div_ceil a d))
    (back_128 c.div_euclid-2.result (int_div_floor c.args.b d) c.div_euclid-2.type_inv (c.div_euclid-2.ensures
    ∙ (λ i. int_div_floor (back_128 c.args.b c.args.b c.ranges.b.sfits refl i) (back_128 d d c.ranges.c.sfits refl i))))
  where
    twice : (z : ℤ) → neg_ℤ (neg_ℤ z) ≡ z
    twice z = omega (arith, ints)
