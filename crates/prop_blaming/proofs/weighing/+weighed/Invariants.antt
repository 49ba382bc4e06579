use Rattle.std.proofs.Common.{length}
use Rattle.prop_blaming.proofs.weighing.+weighed.Given as goal

abbrev pub decreases-weighed : goal.decreases-weighed
decreases-weighed l = length l.listed.now
