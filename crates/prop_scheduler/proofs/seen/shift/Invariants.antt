use Rattle.std.proofs.Common.{◌≤◌, ◌+◌, ◌-◌, length}
use Rattle.prop_numbers.specs.Sets.{set_of}
use Rattle.prop_contents.specs.Knowing.{ArePassed}
use Rattle.prop_scheduler.proofs.seen.shift.Given as goal

abbrev pub invariant-loop-cell : goal.invariant-loop-cell
invariant-loop-cell g l = record {
  within : l.cell ≤ length l.network.cells.kinds;
  known : ArePassed (l.cell + 1) (set_of l.shift.before.now) (set_of l.shift.after.now) l.network.cells.contents
      l.known;
}

abbrev pub decreases-loop-cell : goal.decreases-loop-cell
decreases-loop-cell g l = length l.network.cells.kinds - l.cell
