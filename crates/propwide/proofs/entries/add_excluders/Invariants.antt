use Rattle.std.proofs.Common.{◌≡◌, ◌++◌, take, map}
use Rattle.propwide.specs.Kits.{of_excluder, shown}
use Rattle.propwide.proofs.entries.add_excluders.Given as goal

abbrev pub invariant-loop-rule : goal.invariant-loop-rule
invariant-loop-rule l = record {
  listed : map shown l.made.items ≡ map shown l.initial.made.items ++ map of_excluder (take l.rule-index l.rule-items);
}
