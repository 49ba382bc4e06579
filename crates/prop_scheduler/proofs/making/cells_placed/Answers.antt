use Rattle.std.proofs.Common.{◌≡◌, ◌<◌, ◌∙◌, ap, arith, get_or, length, slice_set}
use Rattle.std.proofs.lemmas.List.Edits.{map_over_more}
use Rattle.prop_procedures.specs.Flats.{cell_placed}
use Rattle.prop_scheduler.proofs.making.cells_placed.Goals as goal

pub loop-i-preserved : goal.loop-i-preserved
loop-i-preserved c =
    let places = c.loop-i.places.items in
    let i = c.loop-i.i in
    let within : i < length c.args.places.items = omega (arith, c.loop-i-test.true, c.len-i-end.ensures) in
    let here : c.index.result.now ≡ get_or places i c.index.result.now = search in
    ap (slice_set places i) c.cell_placed.ensures
    ∙ map_over_more (cell_placed c.args.cells.now c.args.next) c.args.places.items places i c.index.result.now within
    c.loop-i.invariant here
