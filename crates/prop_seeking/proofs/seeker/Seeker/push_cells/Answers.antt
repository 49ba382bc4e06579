use Rattle.std.proofs.Common.{map}
use Rattle.std.specs.String.{string_bytes}
use Rattle.prop_workbench.specs.Sessions.{state_of}
use Rattle.prop_telling.proofs.ListingLemmas.{pieces_more}
use Rattle.prop_seeking.specs.Texts.{cell_texts}
use Rattle.prop_seeking.specs.inner.Seekers.{plan_of}
use Rattle.prop_seeking.proofs.seeker.Seeker.push_cells.Goals as goal

pub loop-cell-preserved : goal.loop-cell-preserved
loop-cell-preserved g c =
    pieces_more (cell_texts (state_of c.args.self.now.teller.session) (plan_of c.args.plan.now))
    (map string_bytes c.args.lines.now.items) (map string_bytes c.loop-cell.lines.items)
    (map string_bytes c.push_cell.new.lines.items) c.loop-cell.cell c.loop-cell.invariant c.in_ok-push_cell.ensures
