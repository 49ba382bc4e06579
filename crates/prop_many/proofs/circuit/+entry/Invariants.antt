use Rattle.std.proofs.Common.{length}
use Rattle.prop_many.proofs.circuit.+entry.Given as goal

abbrev pub decreases-entry : goal.decreases-entry
decreases-entry l = length l.successors.now
