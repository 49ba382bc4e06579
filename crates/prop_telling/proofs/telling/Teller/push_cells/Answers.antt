use Rattle.std.specs.String.{string_bytes}
use Rattle.prop_workbench.specs.Sessions.{state_of}
use Rattle.prop_telling.specs.Listing.{cell_line}
use Rattle.prop_telling.proofs.ListingLemmas.{lines_pushed}
use Rattle.prop_telling.proofs.telling.Teller.push_cells.Goals as goal

pub loop-cell-preserved : goal.loop-cell-preserved
loop-cell-preserved g c =
    let s = c.args.self.now.session in
    let n = c.args.self.now.notes in
    lines_pushed string_bytes (cell_line n (state_of s)) c.args.lines.now.items c.loop-cell.lines.items
    c.push.new.self.items
    c.in_ok-cell_line.field-0 c.loop-cell.cell c.loop-cell.invariant c.in_ok-push.ensures.items
    c.in_ok-cell_line.ensures
