use Rattle.std.proofs.Common.{◌∙◌, ap, length, sym, to_z, w64}
use Rattle.prop_intervals.proofs.WideLemmas.{back_128, back_64}
use Rattle.prop_rows.specs.Sums.{parts_of}
use Rattle.prop_rows.proofs.CornerLemmas.{addend_known, difference_back, high_fits, low_fits, pairs_room, widened}
use Rattle.prop_wide.specs.Ends.{low_of, high_of}
use Rattle.prop_rows.proofs.sums.addend.Goals as goal

pub returns-then-low_of-high_of : goal.returns-then-low_of-high_of
returns-then-low_of-high_of c =
    let z = c.args.z in
    let d = c.args.c in
    let n = length c.args.pairs.now in
    let ends = c.ends-least in
    let z_low = c.low_of-then-low_of-high_of in
    let z_high = c.high_of-then-low_of-high_of in
    let d_low = c.low_of-then-low_of-high_of-2 in
    let low = widened z_low.result c.from.result (low_of z) c.from.ensures z_low.ensures.value
    (rw (← z_low.ensures.value) z_low.ensures.least) (rw (← z_low.ensures.value) z_low.ensures.greatest) in
    let high = widened z_high.result c.from-then-low_of-high_of.result (high_of z) c.from-then-low_of-high_of.ensures
    z_high.ensures.value (rw (← z_high.ensures.value) z_high.ensures.least)
    (rw (← z_high.ensures.value) z_high.ensures.greatest) in
    let factor = widened d_low.result c.from-then-low_of-high_of-2.result (low_of d)
    c.from-then-low_of-high_of-2.ensures d_low.ensures.value (rw (← d_low.ensures.value) d_low.ensures.least)
    (rw (← d_low.ensures.value) d_low.ensures.greatest) in
    let a = difference_back c.from.result ends.result.1 _ _ low.1 low.2
    (pairs_room n ends.result.1 c.requires.few ends.ensures.high ends.ensures.below) low.0 ends.ensures.greatest in
    let b = difference_back c.from-then-low_of-high_of.result ends.result.0 _ _ high.1 high.2
    (pairs_room n ends.result.0 c.requires.few ends.ensures.above ends.ensures.low) high.0 ends.ensures.least in
    let f = back_128 c.from-then-low_of-high_of-2.result (low_of d) c.from-then-low_of-high_of-2.type_inv factor.0 in
    c.parts.ensures ∙ (λ i. parts_of (a i) (b i) (f i))
    ∙ addend_known z d c.args.pairs.now
    (sym (back_64 c.low_of.result (low_of d) (low_fits d) c.low_of.ensures.value)
    ∙ ap (to_z w64) c.if-low_of-high_of.true
    ∙ back_64 c.high_of.result (high_of d) (high_fits d) c.high_of.ensures.value)
