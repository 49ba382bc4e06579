use Rattle.std.proofs.Common.{◌≡◌, length}
use Rattle.prop_numbers.specs.Sets.{set_of}
use Rattle.prop_contents.specs.Knowing.{AreBeliefs}
use Rattle.prop_scheduler.specs.Watching.{IsWatched}
use Rattle.prop_scheduler.proofs.runs.first_clash.Given as goal

abbrev pub invariant-loop-cell : goal.invariant-loop-cell
invariant-loop-cell g l = record {
  line : l.agenda.line ≡ l.initial.agenda.line;
  room : l.agenda.room ≡ l.initial.agenda.room;
  cells : l.agenda.cells ≡ l.initial.agenda.cells;
  watched : IsWatched (set_of l.worldview) l.network.cells l.agenda.watched;
  known : AreBeliefs (set_of l.worldview) l.network.cells.contents l.known;
}

abbrev pub decreases-loop-cell : goal.decreases-loop-cell
decreases-loop-cell g l = length l.agenda.watched
