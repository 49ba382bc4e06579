use Rattle.std.proofs.Common.{◌≡◌, ◌++◌, map, string_bytes}
use Rattle.std.specs.Prelude.{flat_map}
use Rattle.std.specs.List.{range_with_len}
use Rattle.prop_workbench.specs.Sessions.{state_of}
use Rattle.prop_seeking.specs.Texts.{cell_texts}
use Rattle.prop_seeking.specs.inner.Seekers.{plan_of}
use Rattle.prop_seeking.proofs.seeker.Seeker.push_cells.Given as goal

abbrev pub invariant-loop-cell : goal.invariant-loop-cell
invariant-loop-cell g l = map string_bytes l.lines.items ≡ map string_bytes l.initial.lines.items
    ++ flat_map (cell_texts (state_of l.self.teller.session) (plan_of l.plan)) (range_with_len 0 l.cell)
