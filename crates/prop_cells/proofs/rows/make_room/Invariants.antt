use Rattle.std.proofs.Common.{◌≡◌, All, take}
use Rattle.prop_cells.specs.inner.Rooms.{row_items, HasRoom}
use Rattle.prop_cells.proofs.rows.make_room.Given as goal

abbrev pub invariant-loop-cell : goal.invariant-loop-cell
invariant-loop-cell l = record {
  kept : row_items l.rows.items ≡ row_items l.initial.rows.items;
  room : All (HasRoom l.rows.items) (take l.cell-index l.cells);
}
