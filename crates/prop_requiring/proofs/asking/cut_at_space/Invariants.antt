use Rattle.std.proofs.Common.{drop}
use Rattle.prop_requiring.proofs.AskLemmas.{NoSpaces}
use Rattle.prop_requiring.proofs.asking.cut_at_space.Given as goal

abbrev pub invariant-loop-k : goal.invariant-loop-k
invariant-loop-k l = NoSpaces (drop l.k l.bytes)
