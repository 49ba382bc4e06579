use Rattle.std.proofs.Common.{◌≡◌, take, string_bytes}
use Rattle.prop_notes.specs.Naming.{cell_names}
use Rattle.prop_notes.proofs.notes.Notes.cell_names.Given as goal

abbrev pub invariant-loop-cell : goal.invariant-loop-cell
invariant-loop-cell l = string_bytes l.text ≡ cell_names l.self l.names (take l.cell-index l.cells)
