use Rattle.std.proofs.Common.{length}
use Rattle.prop_many.proofs.disjoint.+latest.Given as goal

abbrev pub decreases-latest : goal.decreases-latest
decreases-latest l = length l.others.now
