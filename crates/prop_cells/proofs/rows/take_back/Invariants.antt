use Rattle.std.proofs.Common.{take}
use Rattle.prop_cells.specs.inner.Rooms.{row_items, TakenBack}
use Rattle.prop_cells.proofs.rows.take_back.Given as goal

abbrev pub invariant-loop-i : goal.invariant-loop-i
invariant-loop-i l = TakenBack (row_items l.initial.rows.items) (row_items l.rows.items) (take l.i l.cells)
