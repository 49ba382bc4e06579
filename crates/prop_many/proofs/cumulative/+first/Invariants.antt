use Rattle.std.proofs.Common.{length}
use Rattle.prop_many.proofs.cumulative.+first.Given as goal

abbrev pub decreases-first : goal.decreases-first
decreases-first l = length l.ending.now
