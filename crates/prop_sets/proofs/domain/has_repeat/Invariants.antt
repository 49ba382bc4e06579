use Rattle.std.proofs.Common.{◌≡◌, false, take}
use Rattle.prop_sets.specs.Names.{texts_of, has_repeat}
use Rattle.prop_sets.proofs.domain.has_repeat.Given as goal

abbrev pub invariant-loop-i : goal.invariant-loop-i
invariant-loop-i l = has_repeat (take l.i (texts_of l.names)) ≡ false
