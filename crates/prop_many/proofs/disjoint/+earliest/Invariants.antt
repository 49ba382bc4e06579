use Rattle.std.proofs.Common.{length}
use Rattle.prop_many.proofs.disjoint.+earliest.Given as goal

abbrev pub decreases-earliest : goal.decreases-earliest
decreases-earliest l = length l.others.now
