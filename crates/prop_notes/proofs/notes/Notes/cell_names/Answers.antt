use Rattle.std.proofs.Common.{◌∙◌}
use Rattle.std.specs.String.{string_bytes}
use Rattle.prop_notes.proofs.NamingLemmas.{names_more}
use Rattle.prop_notes.proofs.notes.Notes.cell_names.Goals as goal

pub loop-cell-preserved : goal.loop-cell-preserved
loop-cell-preserved c = c.in_ok-write.ensures.bytes
    ∙ names_more c.args.self.now c.args.names.now c.args.cells.now c.loop-cell.cell-index 0
    (string_bytes c.loop-cell.text) (string_bytes c.in_ok-name.name) c.loop-cell-test.true c.loop-cell.invariant
    c.in_ok-name.ensures
