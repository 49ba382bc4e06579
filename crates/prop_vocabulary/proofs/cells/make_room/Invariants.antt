use Rattle.std.proofs.Common.{◌≡◌, ◌+◌, ◌-◌, ℕ, length, slice_index_or, None}
use Rattle.prop_vocabulary.proofs.cells.make_room.Given as goal

abbrev pub invariant-loop-firsts : goal.invariant-loop-firsts
invariant-loop-firsts l = (other : ℕ)
    → slice_index_or l.firsts.items other None ≡ slice_index_or l.fn.firsts.items other None

abbrev pub decreases-loop-firsts : goal.decreases-loop-firsts
decreases-loop-firsts l = l.cell + 1 - length l.firsts.items
