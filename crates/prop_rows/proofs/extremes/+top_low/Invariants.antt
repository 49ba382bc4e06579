use Rattle.std.proofs.Common.{length}
use Rattle.prop_rows.proofs.extremes.+top_low.Given as goal

abbrev pub decreases-top_low : goal.decreases-top_low
decreases-top_low l = length l.numbers.now
