use Rattle.std.proofs.Common.{◌≡◌, ◌++◌, map, string_bytes}
use Rattle.std.specs.List.{range_with_len}
use Rattle.prop_workbench.specs.Sessions.{state_of}
use Rattle.prop_telling.specs.Listing.{cell_line}
use Rattle.prop_telling.proofs.telling.Teller.push_cells.Given as goal

abbrev pub invariant-loop-cell : goal.invariant-loop-cell
invariant-loop-cell g l = map string_bytes l.lines.items ≡ map string_bytes l.initial.lines.items
    ++ map (cell_line l.self.notes (state_of l.self.session)) (range_with_len 0 l.cell)
