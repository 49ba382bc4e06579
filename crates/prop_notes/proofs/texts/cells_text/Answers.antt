use Rattle.std.proofs.Common.{◌∙◌}
use Rattle.std.specs.String.{string_bytes}
use Rattle.prop_notes.proofs.TextLemmas.{cells_text_more}
use Rattle.prop_notes.proofs.texts.cells_text.Goals as goal

pub loop-cell-preserved : goal.loop-cell-preserved
loop-cell-preserved c = c.in_ok-push_cell.ensures
    ∙ cells_text_more c.args.names.now c.args.cells.now c.loop-cell.cell-index 0 (string_bytes c.loop-cell.text)
    c.loop-cell-test.true c.loop-cell.invariant
