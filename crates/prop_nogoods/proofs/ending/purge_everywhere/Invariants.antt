use Rattle.std.proofs.Common.{◌≡◌, ◌++◌, map, take, drop}
use Rattle.prop_nogoods.specs.inner.Endings.{lacking_of}
use Rattle.prop_nogoods.proofs.ending.purge_everywhere.Given as goal

abbrev pub invariant-loop-ending : goal.invariant-loop-ending
invariant-loop-ending l = l.ending-items ≡ map (lacking_of l.premise) (take l.ending-index l.fn.endings) ++ drop
    l.ending-index l.fn.endings
