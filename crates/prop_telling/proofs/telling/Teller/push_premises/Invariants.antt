use Rattle.std.proofs.Common.{◌≡◌, ◌++◌, map, take, string_bytes}
use Rattle.std.specs.Prelude.{flat_map}
use Rattle.prop_telling.specs.Listing.{premise_lines}
use Rattle.prop_telling.proofs.telling.Teller.push_premises.Given as goal

abbrev pub invariant-loop-number : goal.invariant-loop-number
invariant-loop-number g l = map string_bytes l.lines.items ≡ map string_bytes l.initial.lines.items
    ++ flat_map premise_lines (take l.number l.self.session.search.premises)
