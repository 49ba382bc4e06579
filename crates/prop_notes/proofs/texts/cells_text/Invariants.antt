use Rattle.std.proofs.Common.{◌≡◌, take, string_bytes}
use Rattle.prop_notes.specs.Texts.{cells_text}
use Rattle.prop_notes.proofs.texts.cells_text.Given as goal

abbrev pub invariant-loop-cell : goal.invariant-loop-cell
invariant-loop-cell l = string_bytes l.text ≡ cells_text l.names (take l.cell-index l.cells)
