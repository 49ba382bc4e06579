use Rattle.std.proofs.Common.{◌≡◌, ℕ, ◌==◌, false, take}
use Rattle.std.specs.List.{list_any}
use Rattle.prop_cells.specs.inner.Rooms.{row_items, HasRoom, Noted}
use Rattle.prop_cells.proofs.rows.note.Given as goal

abbrev pub invariant-loop-i : goal.invariant-loop-i
invariant-loop-i l = record {
  noted : Noted (row_items l.initial.rows.items) (row_items l.rows.items) (take l.i l.cells) l.number;
  room : (cell : ℕ) → list_any (λ c. c == cell) (take l.i l.cells) ≡ false → HasRoom l.initial.rows.items cell
      → HasRoom l.rows.items cell;
}
