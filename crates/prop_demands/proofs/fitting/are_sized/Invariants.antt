use Rattle.std.proofs.Common.{All, take}
use Rattle.prop_compound.specs.Kinds.{IsSized}
use Rattle.prop_demands.proofs.fitting.are_sized.Given as goal

abbrev pub invariant-loop-kinded : goal.invariant-loop-kinded
invariant-loop-kinded l = All (IsSized l.words) (take l.kinded-index l.fresh)
