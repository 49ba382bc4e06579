use Rattle.std.proofs.Common.{take}
use Rattle.prop_requiring.specs.Asking.{HasNoEquals}
use Rattle.prop_requiring.proofs.asking.at_equals.Given as goal

abbrev pub invariant-loop-k : goal.invariant-loop-k
invariant-loop-k l = HasNoEquals (take l.k l.bytes)
