use Rattle.std.proofs.Common.{◌≡◌, ◌++◌, take, map}
use Rattle.propwide.specs.Kits.{shown}
use Rattle.propwide.proofs.Making.{of_many_row}
use Rattle.propwide.proofs.entries.add_tasks.Given as goal

abbrev pub invariant-loop-row : goal.invariant-loop-row
invariant-loop-row l = record {
  listed : map shown l.made.items ≡ map shown l.initial.made.items ++ map of_many_row (take l.row-index l.row-items);
}
