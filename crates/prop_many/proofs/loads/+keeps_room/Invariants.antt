use Rattle.std.proofs.Common.{length}
use Rattle.prop_many.proofs.loads.+keeps_room.Given as goal

abbrev pub decreases-keeps_room : goal.decreases-keeps_room
decreases-keeps_room l = length l.starting.now
