use Rattle.std.proofs.Common.{◌≡◌, ◌++◌, take, map}
use Rattle.propwide.specs.Kits.{shown}
use Rattle.propwide.proofs.Making.{of_row_row}
use Rattle.propwide.proofs.entries.add_least.Given as goal

abbrev pub invariant-loop-row : goal.invariant-loop-row
invariant-loop-row l = record {
  listed : map shown l.made.items ≡ map shown l.initial.made.items ++ map of_row_row (take l.row-index l.row-items);
}
