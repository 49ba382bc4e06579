use Rattle.std.proofs.Common.{◌≡◌, ◌∙◌, ◌+◌, ◌<◌, ◌≤◌, ℕ, List, length, refl, subst, arith}
use Rattle.std.proofs.lemmas.List.Elements.{All-weaker}
use Rattle.prop_numbers.specs.Sets.{set_of}
use Rattle.prop_procedures.specs.Kept.{stored_of}
use Rattle.prop_cells.specs.inner.Problems.{Premises}
use Rattle.prop_cells.specs.Data.{Data}
use Rattle.prop_cells.specs.Instances.{readers_of, writers_of}
use Rattle.prop_cells.proofs.Reading.{readers_are, writers_below}
use Rattle.prop_scheduler.specs.Shifts.{touching, AreShifted}
use Rattle.prop_scheduler.specs.Shifts.Stirs.{none}
use Rattle.prop_scheduler.proofs.KnownLaws.{all_passed}
use Rattle.prop_scheduler.proofs.ShiftLaws.{shifted_more, under_way_shifted}
use Rattle.prop_scheduler.proofs.Stirring.{stirs_on}
use Rattle.prop_scheduler.proofs.WatchLaws.{AreLooked, looked_none, looked_on, looked_more, watched_shifted}
use Rattle.prop_scheduler.proofs.waking.alert_along.Goals as goal

pub loop-cell-init : goal.loop-cell-init
loop-cell-init g c =
    let s = set_of c.args.shift.now.before.now in
    let t = set_of c.args.shift.now.after.now in
    let d = c.args.network.now.cells in
    let next = c.next_shifted-cell.ensures in
    record {
      within = next.range.1;
      here = next.shifted;
      shifted = stirs_on (touching d.instances) s t d d c.args.agenda.now.line 0 c.next_shifted-cell.result
          c.args.agenda.now.line none next.range.0 next.passed;
      room = refl;
      cells = refl;
      looked = looked_on s t d 0 c.next_shifted-cell.result c.args.agenda.now.watched
          c.args.agenda.now.watched
          (looked_none s t d c.args.agenda.now.watched c.requires.watched.below) next.passed;
      known = next.known;
    }

pub alert_all-requires : goal.alert_all-requires
alert_all-requires g c =
    let xs = c.args.network.now.cells.instances in
    let room = c.requires.room in
    let same = c.loop-cell.invariant.room in
    rw c.readers.ensures (All-weaker (λ j. j < length xs) (λ j. j < c.loop-cell.agenda.room)
    (λ j h. omega (arith, h, room, same)) (readers_of xs c.loop-cell.cell) (readers_are xs c.loop-cell.cell).below)

pub alert_all-requires-in-loop-cell : goal.alert_all-requires-in-loop-cell
alert_all-requires-in-loop-cell g c =
    let xs = c.args.network.now.cells.instances in
    let room = c.requires.room in
    let same = c.loop-cell.invariant.room in
    let then = c.alert_all.ensures.room in
    rw c.writers.ensures (All-weaker (λ j. j < length xs) (λ j. j < c.alert_all.new.self.room)
    (λ j h. omega (arith, h, room, same, then)) (writers_of xs c.loop-cell.cell)
    (writers_below xs c.loop-cell.cell))

pub watch-requires : goal.watch-requires
watch-requires g c =
    let cells = c.requires.cells in
    let same = c.loop-cell.invariant.cells in
    let read = c.alert_all.ensures.cells in
    let written = c.alert_all-in-loop-cell.ensures.cells in
    let count = c.cells-count.ensures.count in
    let below = c.loop-cell-test.true in
    omega (arith, cells, same, read, written, count, below)

pub loop-cell-preserved : goal.loop-cell-preserved
loop-cell-preserved g c =
    let s = set_of c.args.shift.now.before.now in
    let t = set_of c.args.shift.now.after.now in
    let d = c.args.network.now.cells in
    let h = c.loop-cell.invariant in
    let next = c.next_shifted-cell-in-loop-cell.ensures in
    let to = c.next_shifted-cell-in-loop-cell.result in
    let within : c.loop-cell.cell < length d.kinds = let count = c.cells-count.ensures.count in let below =
    c.loop-cell-test.true in omega (arith, count, below) in
    record {
      within = next.range.1;
      here = next.shifted;
      shifted = rw c.watch.ensures.line (stirs_on (touching d.instances) s t d d c.args.agenda.now.line
          (c.loop-cell.cell + 1) to c.alert_all-in-loop-cell.new.self.line
          (shifted_more s t d c.loop-cell.cell c.args.agenda.now.line c.loop-cell.agenda.line
          c.alert_all.new.self.line c.alert_all-in-loop-cell.new.self.line h.shifted (h.here within)
          (rw c.readers.ensures at c.alert_all.ensures.line)
          (rw c.writers.ensures at c.alert_all-in-loop-cell.ensures.line)) next.range.0 next.passed);
      room = c.watch.ensures.room ∙ c.alert_all-in-loop-cell.ensures.room ∙ c.alert_all.ensures.room ∙ h.room;
      cells = c.watch.ensures.cells ∙ c.alert_all-in-loop-cell.ensures.cells ∙ c.alert_all.ensures.cells ∙ h.cells;
      looked = looked_on s t d (c.loop-cell.cell + 1) to c.args.agenda.now.watched
          c.watch.new.self.watched
          (looked_more s t d c.loop-cell.cell c.args.agenda.now.watched c.loop-cell.agenda.watched
          c.watch.new.self.watched h.looked within
          (rw (c.alert_all-in-loop-cell.ensures.watched, c.alert_all.ensures.watched) at c.watch.ensures.watched))
          next.passed;
      known = next.known;
    }

-- every cell was looked at
at_end : (end cell n : ℕ) → end ≡ n → end ≤ cell → cell ≤ n → cell ≡ n
at_end end cell n count least most = omega (arith, count, least, most)

all_shifted : (s t : Premises) (d : Data) (end cell : ℕ) (old new : List ℕ) → end ≡ length d.kinds → end ≤ cell
    → cell ≤ length d.kinds → AreShifted s t d cell old new → AreShifted s t d (length d.kinds) old new
all_shifted s t d end cell old new count least most h =
    subst (λ (n : ℕ). AreShifted s t d n old new) (at_end end cell (length d.kinds) count least most) h

all_looked : (s t : Premises) (d : Data) (end cell : ℕ) (old new : List ℕ) → end ≡ length d.kinds → end ≤ cell
    → cell ≤ length d.kinds → AreLooked s t d cell old new → AreLooked s t d (length d.kinds) old new
all_looked s t d end cell old new count least most h =
    subst (λ (n : ℕ). AreLooked s t d n old new) (at_end end cell (length d.kinds) count least most) h

pub returns-clause-under_way : goal.returns-clause-under_way
returns-clause-under_way g c =
    under_way_shifted (stored_of g.R.Rule.value_of c.args.network.now.library) (set_of c.args.shift.now.before.now)
    (set_of c.args.shift.now.after.now) c.args.network.now.cells c.args.agenda.now.line c.loop-cell.agenda.line
    c.cells-count.ensures.within c.requires.under_way
    (all_shifted _ _ _ c.cells-count.result c.loop-cell.cell _ _ c.cells-count.ensures.count
    c.loop-cell-test.false c.loop-cell.invariant.within c.loop-cell.invariant.shifted)

pub returns-clause-watched : goal.returns-clause-watched
returns-clause-watched g c =
    let s = set_of c.args.shift.now.before.now in
    let t = set_of c.args.shift.now.after.now in
    let d = c.args.network.now.cells in
    watched_shifted s t d c.args.agenda.now.watched c.loop-cell.agenda.watched c.cells-count.ensures.contents
    (all_looked s t d c.cells-count.result c.loop-cell.cell c.args.agenda.now.watched c.loop-cell.agenda.watched
    c.cells-count.ensures.count c.loop-cell-test.false c.loop-cell.invariant.within c.loop-cell.invariant.looked)
    c.requires.watched

pub returns-clause-shifted : goal.returns-clause-shifted
returns-clause-shifted g c =
    all_shifted _ _ _ c.cells-count.result c.loop-cell.cell _ _
    c.cells-count.ensures.count c.loop-cell-test.false c.loop-cell.invariant.within c.loop-cell.invariant.shifted

pub returns-clause-known : goal.returns-clause-known
returns-clause-known g c =
    let count = c.cells-count.ensures.count in
    let contents = c.cells-count.ensures.contents in
    let done = c.loop-cell-test.false in
    all_passed (set_of c.args.shift.now.before.now) (set_of c.args.shift.now.after.now)
    c.args.network.now.cells.contents c.loop-cell.known (c.loop-cell.cell + 1) (omega (arith, count, contents, done))
    c.loop-cell.invariant.known
