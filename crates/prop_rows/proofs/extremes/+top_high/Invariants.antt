use Rattle.std.proofs.Common.{length}
use Rattle.prop_rows.proofs.extremes.+top_high.Given as goal

abbrev pub decreases-top_high : goal.decreases-top_high
decreases-top_high l = length l.numbers.now
