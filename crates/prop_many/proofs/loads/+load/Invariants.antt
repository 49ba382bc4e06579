use Rattle.std.proofs.Common.{length}
use Rattle.prop_many.proofs.loads.+load.Given as goal

abbrev pub decreases-load : goal.decreases-load
decreases-load l = length l.tasks.now
