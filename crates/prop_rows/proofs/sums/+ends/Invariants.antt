use Rattle.std.proofs.Common.{length}
use Rattle.prop_rows.proofs.sums.+ends.Given as goal

abbrev pub decreases-ends : goal.decreases-ends
decreases-ends l = length l.pairs.now
