use Rattle.std.proofs.Common.{◌≡◌, length}
use Rattle.prop_trail.proofs.queue.Queue.clear.Given as goal

abbrev pub invariant-loop : goal.invariant-loop
invariant-loop l = l.self.room ≡ l.initial.self.room

abbrev pub decreases-loop : goal.decreases-loop
decreases-loop l = length l.self.line
