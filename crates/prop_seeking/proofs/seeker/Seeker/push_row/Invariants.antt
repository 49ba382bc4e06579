use Rattle.std.proofs.Common.{◌≡◌, map, take, string_bytes}
use Rattle.std.specs.Prelude.{flat_map}
use Rattle.prop_workbench.specs.Sessions.{state_of}
use Rattle.prop_seeking.specs.Texts.{cell_texts}
use Rattle.prop_seeking.specs.inner.Seekers.{plan_of}
use Rattle.prop_seeking.proofs.seeker.Seeker.push_row.Given as goal

abbrev pub invariant-loop-cell : goal.invariant-loop-cell
invariant-loop-cell g l = map string_bytes l.texts.items
    ≡ flat_map (cell_texts (state_of l.self.teller.session) (plan_of l.plan)) (take l.cell-index l.named)
