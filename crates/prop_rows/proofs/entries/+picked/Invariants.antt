use Rattle.std.proofs.Common.{length}
use Rattle.prop_rows.proofs.entries.+picked.Given as goal

abbrev pub decreases-picked : goal.decreases-picked
decreases-picked l = length l.entries.now
