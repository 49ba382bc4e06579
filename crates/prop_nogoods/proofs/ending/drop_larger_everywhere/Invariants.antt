use Rattle.std.proofs.Common.{◌≡◌, ◌++◌, map, take, drop}
use Rattle.prop_nogoods.specs.inner.Endings.{left_of}
use Rattle.prop_nogoods.proofs.ending.drop_larger_everywhere.Given as goal

abbrev pub invariant-loop-ending : goal.invariant-loop-ending
invariant-loop-ending l = l.ending-items ≡ map (left_of l.nogood) (take l.ending-index l.fn.endings) ++ drop
    l.ending-index l.fn.endings
