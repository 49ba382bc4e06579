use Rattle.std.proofs.Common.{◌<◌, ◌∙◌, length, get_or, ap, arith}
use Rattle.prop_cells.proofs.RowLemmas.{as_many, kept_row, rooms_more}
use Rattle.prop_cells.proofs.rows.make_room.Goals as goal

pub returns-in_err-reserve-clause-kept : goal.returns-in_err-reserve-clause-kept
returns-in_err-reserve-clause-kept c =
    let rows = c.loop-cell.rows.items in
    let same = as_many rows c.args.rows.now.items (ap length c.loop-cell.invariant.kept) in
    let l : get_or c.args.cells.now c.loop-cell.cell-index 0 < length rows =
    omega (arith, same, c.requires c.loop-cell.cell-index 0 c.loop-cell-test.true) in
    kept_row rows _ c.index_mut.result.now c.reserve.new.self l c.index_mut.ensures.value c.reserve.ensures.items
    ∙ c.loop-cell.invariant.kept

pub loop-cell-preserved : goal.loop-cell-preserved
loop-cell-preserved c =
    let rows = c.loop-cell.rows.items in
    let new = c.reserve.new.self in
    let same = as_many rows c.args.rows.now.items (ap length c.loop-cell.invariant.kept) in
    let l : get_or c.args.cells.now c.loop-cell.cell-index 0 < length rows =
    omega (arith, same, c.requires c.loop-cell.cell-index 0 c.loop-cell-test.true) in
    record {
      kept = kept_row rows _ c.index_mut.result.now new l c.index_mut.ensures.value c.reserve.ensures.items
          ∙ c.loop-cell.invariant.kept;
      room = rooms_more rows c.args.cells.now c.loop-cell.cell-index new c.loop-cell-test.true l
          (omega (arith, new.ok, c.in_ok-reserve.ensures.ok)) c.loop-cell.invariant.room;
    }
