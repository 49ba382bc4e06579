use Rattle.std.proofs.Common.{◌≡◌, take}
use Rattle.prop_blaming.proofs.texts.first_conflicts.Given as goal

abbrev pub invariant-loop-number : goal.invariant-loop-number
invariant-loop-number l = l.found.items ≡ take l.number l.conflicts
