use Rattle.std.proofs.Common.{arith, ◌≡◌, ◌∙◌, neg_ℤ, pos}
use Rattle.std.specs.Int.{int_max}
use Rattle.std.proofs.lemmas.Int.{ints, clamps}
use Rattle.prop_wide.specs.Ends.{low_of, high_of}
use Rattle.prop_wide.specs.Hulls.{hull_of, narrowed}
use Rattle.prop_wide.specs.Quotients.{quotients_of}
use Rattle.prop_wide.proofs.SameEnds.{quotients_is}
use Rattle.prop_wide.proofs.quotients.quotienter.Goals as goal

pub returns : goal.returns
returns c =
    let x = c.args.x in
    let y = c.args.y in
    let above : c.quotients-above.result
    ≡ quotients_of (low_of x) (high_of x) (int_max (low_of y) (pos 1)) (high_of y) =
    quotients_is _ _ _ _ _ _ _ _ _ c.quotients-above.ensures (omega (arith, ints, clamps)) (omega (arith, ints, clamps))
    (omega (arith, ints, clamps)) (omega (arith, ints, clamps)) in
    let below : c.quotients-below.result
    ≡ quotients_of (neg_ℤ (high_of x)) (neg_ℤ (low_of x)) (int_max (neg_ℤ (high_of y)) (pos 1)) (neg_ℤ (low_of y)) =
    quotients_is _ _ _ _ _ _ _ _ _ c.quotients-below.ensures (omega (arith, ints, clamps)) (omega (arith, ints, clamps))
    (omega (arith, ints, clamps)) (omega (arith, ints, clamps)) in
    c.narrowed.ensures ∙ (λ i. narrowed ((c.hull.ensures ∙ (λ j. hull_of (above j) (below j))) i))
