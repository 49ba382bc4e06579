use Rattle.std.proofs.Common.{◌≡◌, ◌≢◌, ◌<◌, ◌≤◌, ◌+◌, ◌-◌, length}
use Rattle.prop_numbers.specs.Sets.{set_of}
use Rattle.prop_procedures.specs.Kept.{stored_of}
use Rattle.prop_contents.specs.Contents.{beliefs}
use Rattle.prop_contents.specs.Knowing.{ArePassed}
use Rattle.prop_cells.specs.Data.{problem_of}
use Rattle.prop_scheduler.specs.Potential.{potential}
use Rattle.prop_scheduler.specs.Shifts.{AreGrown}
use Rattle.prop_scheduler.proofs.GrownLaws.{partly}
use Rattle.prop_scheduler.proofs.WatchLaws.{AreLooked}
use Rattle.prop_scheduler.proofs.waking.alert_grown_along.Given as goal

abbrev pub invariant-loop-cell : goal.invariant-loop-cell
invariant-loop-cell g l = record {
  within : l.cell ≤ length l.network.cells.kinds;
  here : l.cell < length l.network.cells.kinds
      → beliefs (set_of l.shift.before.now) l.network.cells.contents l.cell
      ≢ beliefs (set_of l.shift.after.now) l.network.cells.contents l.cell;
  grown : AreGrown (set_of l.shift.before.now) (set_of l.shift.after.now) l.network.cells l.cell
      l.initial.agenda.line l.agenda.line;
  falls : potential (problem_of (stored_of g.R.Rule.value_of l.network.library) l.network.cells)
      (partly (set_of l.shift.before.now) (set_of l.shift.after.now) l.network.cells l.cell) l.agenda.line
      ≤ potential (problem_of (stored_of g.R.Rule.value_of l.network.library) l.network.cells)
      (beliefs (set_of l.shift.before.now) l.network.cells.contents) l.initial.agenda.line;
  room : l.agenda.room ≡ l.initial.agenda.room;
  cells : l.agenda.cells ≡ l.initial.agenda.cells;
  looked : AreLooked (set_of l.shift.before.now) (set_of l.shift.after.now) l.network.cells l.cell
      l.initial.agenda.watched l.agenda.watched;
  known : ArePassed (l.cell + 1) (set_of l.shift.before.now) (set_of l.shift.after.now) l.network.cells.contents
      l.known;
}

abbrev pub decreases-loop-cell : goal.decreases-loop-cell
decreases-loop-cell g l = length l.network.cells.kinds - l.cell
