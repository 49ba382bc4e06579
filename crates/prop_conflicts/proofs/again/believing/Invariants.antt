use Rattle.std.specs.Prelude.{⊤}
use Rattle.prop_conflicts.proofs.again.believing.Given as goal

abbrev pub invariant-loop-number : goal.invariant-loop-number
invariant-loop-number l = ⊤
