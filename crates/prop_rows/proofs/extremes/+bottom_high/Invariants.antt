use Rattle.std.proofs.Common.{length}
use Rattle.prop_rows.proofs.extremes.+bottom_high.Given as goal

abbrev pub decreases-bottom_high : goal.decreases-bottom_high
decreases-bottom_high l = length l.numbers.now
