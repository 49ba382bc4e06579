use Rattle.std.proofs.Common.{map}
use Rattle.std.specs.String.{string_bytes}
use Rattle.prop_workbench.specs.Sessions.{state_of}
use Rattle.prop_seeking.specs.Texts.{cell_texts}
use Rattle.prop_seeking.specs.inner.Seekers.{plan_of}
use Rattle.prop_seeking.proofs.SeekLemmas.{items_more}
use Rattle.prop_seeking.proofs.seeker.Seeker.push_row.Goals as goal

pub loop-cell-preserved : goal.loop-cell-preserved
loop-cell-preserved g c =
    items_more (cell_texts (state_of c.args.self.now.teller.session) (plan_of c.args.plan.now)) c.args.named.now
    c.loop-cell.cell-index _ (map string_bytes c.loop-cell.texts.items) (map string_bytes c.push_cell.new.lines.items)
    c.loop-cell-test.true c.loop-cell.invariant c.in_ok-push_cell.ensures
