use Rattle.std.proofs.Common.{◌≡◌, ◌++◌, map, string_bytes}
use Rattle.std.specs.Prelude.{flat_map}
use Rattle.std.specs.List.{range_with_len}
use Rattle.prop_telling.specs.Listing.{choice_lines}
use Rattle.prop_telling.proofs.telling.Teller.push_choices.Given as goal

abbrev pub invariant-loop-place : goal.invariant-loop-place
invariant-loop-place g l = map string_bytes l.lines.items ≡ map string_bytes l.initial.lines.items
    ++ flat_map (choice_lines l.self.session.search) (range_with_len 0 l.place)
