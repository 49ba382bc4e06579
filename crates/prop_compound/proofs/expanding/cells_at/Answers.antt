use Rattle.std.proofs.Common.{get_or, refl, ap, ◌∙◌}
use Rattle.std.proofs.lemmas.List.{take_all, get_or_default}
use Rattle.prop_compound.specs.Expansion.{cell_at, cells_at}
use Rattle.prop_compound.proofs.Looping.{made_more}
use Rattle.prop_compound.proofs.expanding.cells_at.Goals as goal

pub loop-place-preserved : goal.loop-place-preserved
loop-place-preserved c =
    let x = get_or c.args.places.now c.loop-place.place-index 0 in
    made_more c.args.places.now c.loop-place.place-index x c.loop-place-test.true
    (get_or_default c.args.places.now c.loop-place.place-index 0 x c.loop-place-test.true)
    (cell_at c.args.cells.now) c.loop-place.chosen.items c.push.new.self.items _ c.loop-place.invariant
    c.in_ok-push.ensures.items refl

pub returns : goal.returns
returns c =
    c.loop-place.invariant ∙ ap (cells_at c.args.cells.now)
    (take_all c.loop-place.place-index c.args.places.now c.loop-place-test.false)
