use Rattle.std.proofs.Common.{length}
use Rattle.prop_rows.proofs.entries.+found.Given as goal

abbrev pub decreases-found : goal.decreases-found
decreases-found l = length l.entries.now
