use Rattle.std.proofs.Common.{List, ℕ, length, sym, subst, ◌≤◌}
use Rattle.prop_numbers.specs.Sets.{set_of, IsPart}
use Rattle.prop_procedures.specs.Kept.{stored_of}
use Rattle.prop_contents.specs.Contents.{beliefs}
use Rattle.prop_contents.specs.Knowing.{AreBeliefs}
use Rattle.prop_cells.specs.Data.{problem_of}
use Rattle.prop_scheduler.specs.Turns.{IsUnderWay}
use Rattle.prop_scheduler.specs.Potential.{potential}
use Rattle.prop_scheduler.specs.Watching.{IsWatched}
use Rattle.prop_scheduler.specs.Shifts.{AreGrown}
use Rattle.prop_scheduler.proofs.waking.alert_grown.Goals as goal

pub alert_grown_along-requires : goal.alert_grown_along-requires
alert_grown_along-requires g c =
    let before = sym c.new-shift.ensures.before in
    let library = stored_of g.R.Rule.value_of c.args.live.now.network.library in
    let d = c.args.live.now.network.cells in
    let agenda = c.args.live.now.agenda in
    record {
      room = c.args.live.now.room;
      cells = c.args.live.now.cells;
      known = subst (λ (w : List ℕ). AreBeliefs (set_of w) d.contents c.take-known.result) before
          (c.take-known.ensures.known d.contents c.args.live.now.beliefs);
      more = subst (λ (w : List ℕ). IsPart (set_of w) (set_of c.new-shift.result.after.now)) before
          (subst (λ (w : List ℕ). IsPart (set_of c.args.before.now) (set_of w)) (sym c.new-shift.ensures.after)
          c.requires.more);
      under_way = subst (λ (w : List ℕ). IsUnderWay library (set_of w) d agenda.line) before
          c.requires.alive.under_way;
      watched = subst (λ (w : List ℕ). IsWatched (set_of w) d agenda.watched) before c.requires.alive.watched;
    }

pub returns-clause-alive : goal.returns-clause-alive
returns-clause-alive g c =
    let after = c.new-shift.ensures.after in
    let library = stored_of g.R.Rule.value_of c.args.live.now.network.library in
    let d = c.args.live.now.network.cells in
    record {
      under_way = subst (λ (w : List ℕ). IsUnderWay library (set_of w) d c.alert_grown_along.new.agenda.line) after
          c.alert_grown_along.ensures.under_way;
      watched = subst (λ (w : List ℕ). IsWatched (set_of w) d c.alert_grown_along.new.agenda.watched) after
          c.alert_grown_along.ensures.watched;
    }

pub returns-clause-grown : goal.returns-clause-grown
returns-clause-grown g c =
    let d = c.args.live.now.network.cells in
    subst (λ (w : List ℕ). AreGrown (set_of w) (set_of c.args.after.now) d (length d.kinds)
    c.args.live.now.agenda.line c.alert_grown_along.new.agenda.line) c.new-shift.ensures.before
    (subst (λ (w : List ℕ). AreGrown (set_of c.new-shift.result.before.now) (set_of w) d (length d.kinds)
    c.args.live.now.agenda.line c.alert_grown_along.new.agenda.line) c.new-shift.ensures.after
    c.alert_grown_along.ensures.grown)

pub returns-clause-falls : goal.returns-clause-falls
returns-clause-falls g c =
    let problem = problem_of (stored_of g.R.Rule.value_of c.args.live.now.network.library)
    c.args.live.now.network.cells in
    let contents = c.args.live.now.network.cells.contents in
    let old = c.args.live.now.agenda.line in
    let new = c.alert_grown_along.new.agenda.line in
    subst (λ (w : List ℕ). potential problem (beliefs (set_of c.args.after.now) contents) new
    ≤ potential problem (beliefs (set_of w) contents) old) c.new-shift.ensures.before
    (subst (λ (w : List ℕ). potential problem (beliefs (set_of w) contents) new
    ≤ potential problem (beliefs (set_of c.new-shift.result.before.now) contents) old) c.new-shift.ensures.after
    c.alert_grown_along.ensures.falls)

pub invariant_of-live-clause-beliefs : goal.invariant_of-live-clause-beliefs
invariant_of-live-clause-beliefs g c =
    let d = c.args.live.now.network.cells in
    c.keep.ensures d.contents
    (subst (λ (w : List ℕ). AreBeliefs (set_of w) d.contents c.alert_grown_along.new.known) c.new-shift.ensures.after
    c.alert_grown_along.ensures.known)
