use Rattle.std.proofs.Common.{◌≡◌, ◌++◌, take, map}
use Rattle.propwide.specs.Kits.{shown}
use Rattle.propwide.proofs.Making.{of_row}
use Rattle.propwide.proofs.entries.add_wider.Given as goal

abbrev pub invariant-loop-name : goal.invariant-loop-name
invariant-loop-name l = record {
  listed : map shown l.made.items ≡ map shown l.initial.made.items ++ map of_row (take l.name-index l.name-items);
}
