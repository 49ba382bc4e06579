use Rattle.std.proofs.Common.{List, ℕ, length, sym, subst}
use Rattle.prop_numbers.specs.Sets.{set_of}
use Rattle.prop_procedures.specs.Kept.{stored_of}
use Rattle.prop_contents.specs.Knowing.{AreBeliefs}
use Rattle.prop_scheduler.specs.Turns.{IsUnderWay}
use Rattle.prop_scheduler.specs.Watching.{IsWatched}
use Rattle.prop_scheduler.specs.Shifts.{AreShifted}
use Rattle.prop_scheduler.proofs.waking.alert_shifted.Goals as goal

pub alert_along-requires : goal.alert_along-requires
alert_along-requires g c =
    let before = sym c.new-shift.ensures.before in
    let library = stored_of g.R.Rule.value_of c.args.live.now.network.library in
    let d = c.args.live.now.network.cells in
    let agenda = c.args.live.now.agenda in
    record {
      room = c.args.live.now.room;
      cells = c.args.live.now.cells;
      known = subst (λ (w : List ℕ). AreBeliefs (set_of w) d.contents c.take-known.result) before
          (c.take-known.ensures.known d.contents c.args.live.now.beliefs);
      under_way = subst (λ (w : List ℕ). IsUnderWay library (set_of w) d agenda.line) before
          c.requires.alive.under_way;
      watched = subst (λ (w : List ℕ). IsWatched (set_of w) d agenda.watched) before c.requires.alive.watched;
    }

pub returns-clause-alive : goal.returns-clause-alive
returns-clause-alive g c =
    let after = c.new-shift.ensures.after in
    let library = stored_of g.R.Rule.value_of c.args.live.now.network.library in
    let d = c.args.live.now.network.cells in
    record {
      under_way = subst (λ (w : List ℕ). IsUnderWay library (set_of w) d c.alert_along.new.agenda.line) after
          c.alert_along.ensures.under_way;
      watched = subst (λ (w : List ℕ). IsWatched (set_of w) d c.alert_along.new.agenda.watched) after
          c.alert_along.ensures.watched;
    }

pub returns-clause-shifted : goal.returns-clause-shifted
returns-clause-shifted g c =
    let d = c.args.live.now.network.cells in
    subst (λ (w : List ℕ). AreShifted (set_of w) (set_of c.args.after.now) d (length d.kinds)
    c.args.live.now.agenda.line c.alert_along.new.agenda.line) c.new-shift.ensures.before
    (subst (λ (w : List ℕ). AreShifted (set_of c.new-shift.result.before.now) (set_of w) d (length d.kinds)
    c.args.live.now.agenda.line c.alert_along.new.agenda.line) c.new-shift.ensures.after
    c.alert_along.ensures.shifted)

pub invariant_of-live-clause-beliefs : goal.invariant_of-live-clause-beliefs
invariant_of-live-clause-beliefs g c =
    let d = c.args.live.now.network.cells in
    c.keep.ensures d.contents
    (subst (λ (w : List ℕ). AreBeliefs (set_of w) d.contents c.alert_along.new.known) c.new-shift.ensures.after
    c.alert_along.ensures.known)
