use Rattle.std.proofs.Common.{◌≤◌}
use Rattle.prop_conflicts.proofs.explorer.Explorer.known.Given as goal

abbrev pub invariant-loop-repair : goal.invariant-loop-repair
invariant-loop-repair l = l.known ≤ l.repair-index
