use Rattle.std.proofs.Common.{◌≡◌, ◌∙◌, ◌+◌, ◌<◌, ◌≤◌, ℕ, List, length, refl, subst, arith}
use Rattle.std.proofs.lemmas.List.Elements.{All-weaker}
use Rattle.prop_numbers.specs.Sets.{set_of}
use Rattle.prop_procedures.specs.Kept.{stored_of}
use Rattle.prop_cells.specs.inner.Problems.{Premises}
use Rattle.prop_cells.specs.Data.{Data}
use Rattle.prop_cells.specs.Instances.{readers_of}
use Rattle.prop_cells.proofs.Reading.{readers_are}
use Rattle.prop_scheduler.specs.Agendas.{AllAlerted}
use Rattle.prop_scheduler.specs.Shifts.{AreGrown}
use Rattle.prop_scheduler.specs.Shifts.Stirs.{none}
use Rattle.prop_scheduler.proofs.KnownLaws.{all_passed}
use Rattle.prop_scheduler.proofs.Stirring.{stirs_on}
use Rattle.prop_scheduler.proofs.GrownLaws.{grown_more, under_way_grown, potential_at_first}
use Rattle.prop_scheduler.proofs.GrownLaws.{potential_on, potential_falls, potential_at_last}
use Rattle.prop_scheduler.proofs.WatchLaws.{AreLooked, looked_none, looked_on, looked_more, watched_shifted}
use Rattle.prop_scheduler.proofs.waking.alert_grown_along.Goals as goal

pub loop-cell-init : goal.loop-cell-init
loop-cell-init g c =
    let s = set_of c.args.shift.now.before.now in
    let t = set_of c.args.shift.now.after.now in
    let d = c.args.network.now.cells in
    let library = stored_of g.R.Rule.value_of c.args.network.now.library in
    let made = c.requires.under_way.kept.made in
    let line = c.args.agenda.now.line in
    let next = c.next_shifted-cell.ensures in
    let first = potential_at_first library s t d made c.requires.more line in
    let on = potential_on library s t d made c.requires.more 0 c.next_shifted-cell.result line next.range.0 next.passed
    in
    record {
      within = next.range.1;
      here = next.shifted;
      grown = stirs_on (readers_of d.instances) s t d d line 0 c.next_shifted-cell.result line none next.range.0
          next.passed;
      falls = omega (arith, first, on);
      room = refl;
      cells = refl;
      looked = looked_on s t d 0 c.next_shifted-cell.result c.args.agenda.now.watched
          c.args.agenda.now.watched
          (looked_none s t d c.args.agenda.now.watched c.requires.watched.below) next.passed;
      known = next.known;
    }

pub alert_all-requires : goal.alert_all-requires
alert_all-requires g c =
    let xs = c.args.network.now.cells.instances in
    let room = c.requires.room in
    let same = c.loop-cell.invariant.room in
    rw c.readers.ensures (All-weaker (λ j. j < length xs) (λ j. j < c.loop-cell.agenda.room)
    (λ j h. omega (arith, h, room, same)) (readers_of xs c.loop-cell.cell) (readers_are xs c.loop-cell.cell).below)

pub watch-requires : goal.watch-requires
watch-requires g c =
    let cells = c.requires.cells in
    let same = c.loop-cell.invariant.cells in
    let read = c.alert_all.ensures.cells in
    let count = c.cells-count.ensures.count in
    let below = c.loop-cell-test.true in
    omega (arith, cells, same, read, count, below)

pub loop-cell-preserved : goal.loop-cell-preserved
loop-cell-preserved g c =
    let s = set_of c.args.shift.now.before.now in
    let t = set_of c.args.shift.now.after.now in
    let d = c.args.network.now.cells in
    let library = stored_of g.R.Rule.value_of c.args.network.now.library in
    let made = c.requires.under_way.kept.made in
    let h = c.loop-cell.invariant in
    let next = c.next_shifted-cell-in-loop-cell.ensures in
    let to = c.next_shifted-cell-in-loop-cell.result in
    let line = c.alert_all.new.self.line in
    let within : c.loop-cell.cell < length d.kinds = let count = c.cells-count.ensures.count in let below =
    c.loop-cell-test.true in omega (arith, count, below) in
    let read : AllAlerted c.loop-cell.agenda.line line (readers_of d.instances c.loop-cell.cell) =
    rw c.readers.ensures at c.alert_all.ensures.alerted in
    let less = potential_falls library s t d made c.requires.more c.loop-cell.cell c.loop-cell.agenda.line line within
    (h.here within) read in
    let on = potential_on library s t d made c.requires.more (c.loop-cell.cell + 1) to line
    next.range.0 next.passed in
    let so_far = h.falls in
    record {
      within = next.range.1;
      here = next.shifted;
      grown = rw c.watch.ensures.line (stirs_on (readers_of d.instances) s t d d c.args.agenda.now.line
          (c.loop-cell.cell + 1) to line
          (grown_more s t d c.loop-cell.cell c.args.agenda.now.line c.loop-cell.agenda.line line h.grown
          (h.here within) (rw c.readers.ensures at c.alert_all.ensures.line)) next.range.0 next.passed);
      falls = rw c.watch.ensures.line (omega (arith, less, on, so_far));
      room = c.watch.ensures.room ∙ c.alert_all.ensures.room ∙ h.room;
      cells = c.watch.ensures.cells ∙ c.alert_all.ensures.cells ∙ h.cells;
      looked = looked_on s t d (c.loop-cell.cell + 1) to c.args.agenda.now.watched
          c.watch.new.self.watched
          (looked_more s t d c.loop-cell.cell c.args.agenda.now.watched c.loop-cell.agenda.watched
          c.watch.new.self.watched h.looked within (rw c.alert_all.ensures.watched at c.watch.ensures.watched))
          next.passed;
      known = next.known;
    }

-- every cell was looked at
at_end : (end cell n : ℕ) → end ≡ n → end ≤ cell → cell ≤ n → cell ≡ n
at_end end cell n count least most = omega (arith, count, least, most)

all_grown : (s t : Premises) (d : Data) (end cell : ℕ) (old new : List ℕ) → end ≡ length d.kinds → end ≤ cell
    → cell ≤ length d.kinds → AreGrown s t d cell old new → AreGrown s t d (length d.kinds) old new
all_grown s t d end cell old new count least most h =
    subst (λ (n : ℕ). AreGrown s t d n old new) (at_end end cell (length d.kinds) count least most) h

all_looked : (s t : Premises) (d : Data) (end cell : ℕ) (old new : List ℕ) → end ≡ length d.kinds → end ≤ cell
    → cell ≤ length d.kinds → AreLooked s t d cell old new → AreLooked s t d (length d.kinds) old new
all_looked s t d end cell old new count least most h =
    subst (λ (n : ℕ). AreLooked s t d n old new) (at_end end cell (length d.kinds) count least most) h

pub returns-clause-grown : goal.returns-clause-grown
returns-clause-grown g c =
    all_grown _ _ _ c.cells-count.result c.loop-cell.cell _ _ c.cells-count.ensures.count
    c.loop-cell-test.false c.loop-cell.invariant.within c.loop-cell.invariant.grown

pub returns-clause-under_way : goal.returns-clause-under_way
returns-clause-under_way g c =
    under_way_grown (stored_of g.R.Rule.value_of c.args.network.now.library) (set_of c.args.shift.now.before.now)
    (set_of c.args.shift.now.after.now) c.args.network.now.cells c.args.agenda.now.line c.loop-cell.agenda.line
    c.requires.more c.cells-count.ensures.within c.requires.under_way
    (all_grown _ _ _ c.cells-count.result c.loop-cell.cell _ _ c.cells-count.ensures.count
    c.loop-cell-test.false c.loop-cell.invariant.within c.loop-cell.invariant.grown)

pub returns-clause-watched : goal.returns-clause-watched
returns-clause-watched g c =
    let s = set_of c.args.shift.now.before.now in
    let t = set_of c.args.shift.now.after.now in
    let d = c.args.network.now.cells in
    watched_shifted s t d c.args.agenda.now.watched c.loop-cell.agenda.watched c.cells-count.ensures.contents
    (all_looked s t d c.cells-count.result c.loop-cell.cell c.args.agenda.now.watched c.loop-cell.agenda.watched
    c.cells-count.ensures.count c.loop-cell-test.false c.loop-cell.invariant.within c.loop-cell.invariant.looked)
    c.requires.watched

pub returns-clause-falls : goal.returns-clause-falls
returns-clause-falls g c =
    let s = set_of c.args.shift.now.before.now in
    let t = set_of c.args.shift.now.after.now in
    let d = c.args.network.now.cells in
    let library = stored_of g.R.Rule.value_of c.args.network.now.library in
    let end = at_end c.cells-count.result c.loop-cell.cell (length d.kinds) c.cells-count.ensures.count
    c.loop-cell-test.false c.loop-cell.invariant.within in
    let so_far = rw end at c.loop-cell.invariant.falls in
    let last = potential_at_last library s t d c.requires.under_way.kept.made c.requires.more
    c.loop-cell.agenda.line
    c.cells-count.ensures.contents in
    omega (arith, so_far, last)

pub returns-clause-known : goal.returns-clause-known
returns-clause-known g c =
    let count = c.cells-count.ensures.count in
    let contents = c.cells-count.ensures.contents in
    let done = c.loop-cell-test.false in
    all_passed (set_of c.args.shift.now.before.now) (set_of c.args.shift.now.after.now)
    c.args.network.now.cells.contents c.loop-cell.known (c.loop-cell.cell + 1) (omega (arith, count, contents, done))
    c.loop-cell.invariant.known
