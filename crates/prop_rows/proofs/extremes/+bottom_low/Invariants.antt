use Rattle.std.proofs.Common.{length}
use Rattle.prop_rows.proofs.extremes.+bottom_low.Given as goal

abbrev pub decreases-bottom_low : goal.decreases-bottom_low
decreases-bottom_low l = length l.numbers.now
