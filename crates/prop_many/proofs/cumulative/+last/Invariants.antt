use Rattle.std.proofs.Common.{length}
use Rattle.prop_many.proofs.cumulative.+last.Given as goal

abbrev pub decreases-last : goal.decreases-last
decreases-last l = length l.starting.now
