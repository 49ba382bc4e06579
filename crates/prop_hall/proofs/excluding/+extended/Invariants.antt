use Rattle.std.proofs.Common.{length}
use Rattle.prop_hall.proofs.excluding.+extended.Given as goal

abbrev pub decreases-extended : goal.decreases-extended
decreases-extended l = length l.rest.now
