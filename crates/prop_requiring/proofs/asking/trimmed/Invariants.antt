use Rattle.std.proofs.Common.{drop}
use Rattle.prop_requiring.specs.Asking.{AreSpaces}
use Rattle.prop_requiring.proofs.asking.trimmed.Given as goal

abbrev pub invariant-loop-k : goal.invariant-loop-k
invariant-loop-k l = AreSpaces (drop l.k l.bytes)
