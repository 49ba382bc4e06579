use Rattle.std.proofs.Common.{take, All}
use Rattle.prop_nogoods.specs.inner.Stores.{IsPartOfNone}
use Rattle.prop_nogoods.proofs.ending.has_larger_among.Given as goal

abbrev pub invariant-loop-ending : goal.invariant-loop-ending
invariant-loop-ending l = All (λ g. IsPartOfNone g.sets l.nogood) (take l.ending-index l.behind)
