use Rattle.std.proofs.Common.{arith, ◌≡◌, ◌∙◌, neg_ℤ}
use Rattle.std.proofs.lemmas.Int.{ints}
use Rattle.prop_wide.specs.Ends.{part_of}
use Rattle.prop_wide.specs.Hulls.{hull_of, narrowed}
use Rattle.prop_wide.proofs.SameEnds.{part_is}
use Rattle.prop_wide.proofs.distances.at_distance.Goals as goal

pub returns : goal.returns
returns c =
    let x = c.args.x in
    let near = c.args.near in
    let far = c.args.far in
    let below : c.part_of.result ≡ part_of x (neg_ℤ far) (neg_ℤ near) =
    part_is x _ _ _ _ _ c.part_of.ensures (omega (arith, ints)) (omega (arith, ints)) in
    let above : c.part_of-2.result ≡ part_of x near far =
    part_is x _ _ _ _ _ c.part_of-2.ensures (omega (arith, ints)) (omega (arith, ints)) in
    c.narrowed.ensures ∙ (λ i. narrowed ((c.hull.ensures ∙ (λ j. hull_of (below j) (above j))) i))
