use Rattle.std.proofs.Common.{take}
use Rattle.std.specs.List.{AllByRecursion}
use Rattle.prop_terms.specs.inner.Parts.{IsInWord}
use Rattle.prop_terms.proofs.pieces.word_len.Given as goal

abbrev pub invariant-loop-i : goal.invariant-loop-i
invariant-loop-i l = AllByRecursion IsInWord (take l.i l.bytes)
