use Rattle.std.proofs.Common.{arith, length, ◌<◌}
use Rattle.prop_premises.specs.ChoiceLists.{IsSide}
use Rattle.prop_refuting.proofs.RowLemmas.{zip_more}
use Rattle.prop_spread.proofs.proposal.are_sides.Goals as goal

pub loop-place-preserved : goal.loop-place-preserved
loop-place-preserved c =
    let choices = c.args.choices.now in
    let sides = c.args.sides.now in
    let within : c.loop-place.place < length sides = omega arith in
    zip_more IsSide choices sides c.loop-place.place (record { first = 0; sides = 0 }) 0 c.loop-place-test.true within
    c.loop-place.invariant (c.if-side-lt1.false, c.if-side-choices.false)
