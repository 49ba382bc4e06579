use Rattle.std.proofs.Common.{◌≡◌, ◌-◌, take, drop}
use Rattle.prop_vocabulary.specs.Values.{halves}
use Rattle.prop_vocabulary.proofs.Halving.{behind_front}
use Rattle.prop_vocabulary.proofs.values.halves.Given as goal

abbrev pub invariant-loop-i : goal.invariant-loop-i
invariant-loop-i l = behind_front (take (l.i - 1) l.word) (halves (drop (l.i - 1) l.word)) ≡ halves l.word
