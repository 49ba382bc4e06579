use Rattle.prop_compound.proofs.Frames.{IsOnTheWay, all_left}
use Rattle.prop_compound.proofs.expanding.expand_definition.Given as goal

abbrev pub invariant-loop-frame : goal.invariant-loop-frame
invariant-loop-frame l = IsOnTheWay l.words l.definitions l.fn.frame l.fn.walk l.waiting.items l.frame l.walk

abbrev pub decreases-loop-frame : goal.decreases-loop-frame
decreases-loop-frame l = all_left l.definitions l.waiting.items l.frame
