use Rattle.std.proofs.Common.{◌≡◌, ◌++◌, map, string_bytes}
use Rattle.std.specs.List.{range_with_len}
use Rattle.prop_workbench.specs.Sessions.{state_of}
use Rattle.prop_telling.specs.Listing.{statement_line}
use Rattle.prop_telling.proofs.telling.Teller.push_statements.Given as goal

abbrev pub invariant-loop-number : goal.invariant-loop-number
invariant-loop-number g l = map string_bytes l.lines.items ≡ map string_bytes l.initial.lines.items
    ++ map (statement_line l.self.notes (state_of l.self.session)) (range_with_len 0 l.number)
