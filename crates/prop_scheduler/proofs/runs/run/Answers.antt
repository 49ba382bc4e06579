use Rattle.std.proofs.Common.{◌≡◌, ◌∙◌, ◌+◌, refl, sym, ap, subst, arith, ℕ, List, length, Result, Ok, Err, OnErr, inl}
use Rattle.std.proofs.Common.{inr}
use Rattle.std.proofs.lemmas.List.{nil_from_length}
use Rattle.prop_numbers.specs.Sets.{set_of}
use Rattle.prop_procedures.specs.Stored.{Stored}
use Rattle.prop_procedures.specs.Kept.{stored_of}
use Rattle.prop_cells.specs.inner.Problems.{Premises}
use Rattle.prop_cells.specs.Data.{Data, problem_of}
use Rattle.prop_cells.proofs.Founding.{clash_conflicts}
use Rattle.prop_scheduler.specs.Turns.{Interrupted, Turn}
use Rattle.prop_scheduler.specs.Turns.Turns.{none, more}
use Rattle.prop_scheduler.specs.Potential.{most_steps}
use Rattle.prop_scheduler.proofs.Steps.{settled}
use Rattle.prop_scheduler.proofs.KnownLaws.{same_known}
use Rattle.prop_scheduler.proofs.Ending.{no_turns, under_way_within}
use Rattle.prop_scheduler.proofs.runs.run.Goals as goal

on_err : {T E X : Type 0} (r : Result T E) → X → OnErr r X
on_err (Ok a) x = tt
on_err (Err e) x = x

-- a turn over a library is one over the same library
turn_on : {L : Type 0} (stored : L → List Stored) (s : Premises) (place : ℕ) (old new : Data) (line line' : List ℕ)
    (a b : L) → b ≡ a → Turn (stored b) s place old new line line' → Turn (stored a) s place old new line line'
turn_on stored s place old new line line' a b same turn =
    subst (λ l. Turn (stored l) s place old new line line') same turn

-- a turn changes the contents alone
turn_rest : (library : List Stored) (s : Premises) (place : ℕ) (start old new : Data) (line line' : List ℕ)
    → Turn library s place old new line line' → old ≡ record start { contents = old.contents }
    → new ≡ record start { contents = new.contents }
turn_rest library s place start old new line line' turn rest = turn.calls.rest
    ∙ (λ i. record (rest i) { contents = new.contents })

-- the most steps are those of the start, over the same library and with other contents alone
most_same : (library library' : List Stored) (start new : Data) → library' ≡ library
    → new ≡ record start { contents = new.contents }
    → most_steps (problem_of library' new) ≡ most_steps (problem_of library start)
most_same library library' start new same rest = λ i. most_steps (problem_of (same i) (rest i))

pub returns-in-Some-clause-ran : goal.returns-in-Some-clause-ran
returns-in-Some-clause-ran g c =
    record {
      library = refl;
      rest = (refl);
    }

pub returns-in-Some-clause-alive : goal.returns-in-Some-clause-alive
returns-in-Some-clause-alive g c =
    record {
      under_way = rw c.first_clash.ensures.line c.requires.alive.under_way;
      watched =
          c.first_clash.ensures.watched;
    }

pub returns-in-Some-clause-turns : goal.returns-in-Some-clause-turns
returns-in-Some-clause-turns g c =
    rw c.first_clash.ensures.line none

pub returns-in-Some-clause-err : goal.returns-in-Some-clause-err
returns-in-Some-clause-err g c =
    tt

pub returns-in-Some-clause-quiet : goal.returns-in-Some-clause-quiet
returns-in-Some-clause-quiet g c =
    λ e. cc e

pub returns-in-Some-clause-rests : goal.returns-in-Some-clause-rests
returns-in-Some-clause-rests g c =
    λ e. cc e

pub returns-in-Some-clause-clash : goal.returns-in-Some-clause-clash
returns-in-Some-clause-clash g c =
    record {
      cell = c.in-Some.cell;
      clash = rw c.in-Some.is at c.first_clash.ensures.seen;
      lean = c.in_ok-why-in-Some.ensures.lean;
    }

pub returns-in-Some-clause-conflict : goal.returns-in-Some-clause-conflict
returns-in-Some-clause-conflict g c =
    clash_conflicts (stored_of g.R.Rule.value_of c.args.live.now.network.library) c.args.live.now.network.cells
    (set_of c.args.worldview.now) _ c.requires.alive.under_way.kept
    (record {
      cell = c.in-Some.cell;
      clash = rw c.in-Some.is at c.first_clash.ensures.seen;
      lean = c.in_ok-why-in-Some.ensures.lean;
    })

pub returns-in-Some-clause-spent : goal.returns-in-Some-clause-spent
returns-in-Some-clause-spent g c =
    λ e. cc e

pub returns-in-Some-clause-left : goal.returns-in-Some-clause-left
returns-in-Some-clause-left g c =
    λ e. cc e

pub returns-in-Some-clause-free : goal.returns-in-Some-clause-free
returns-in-Some-clause-free g c =
    λ e. cc e

pub returns-in-Some-clause-steps : goal.returns-in-Some-clause-steps
returns-in-Some-clause-steps g c =
    omega arith

pub returns-in-Some-clause-at_rest : goal.returns-in-Some-clause-at_rest
returns-in-Some-clause-at_rest g c =
    λ empty free. absurd (free c.in-Some.cell (rw c.in-Some.is at c.first_clash.ensures.seen))

pub returns-in-Some-clause-falls : goal.returns-in-Some-clause-falls
returns-in-Some-clause-falls g c =
    rw c.first_clash.ensures.line (omega arith)

pub returns-in-Some-clause-earned : goal.returns-in-Some-clause-earned
returns-in-Some-clause-earned g c =
    λ e. cc e

pub returns-in-Some-clause-bounded : goal.returns-in-Some-clause-bounded
returns-in-Some-clause-bounded g c =
    omega arith

pub returns-in_err-why-in-Some-clause-ran : goal.returns-in_err-why-in-Some-clause-ran
returns-in_err-why-in-Some-clause-ran g c =
    record {
      library = refl;
      rest = (refl);
    }

pub returns-in_err-why-in-Some-clause-alive : goal.returns-in_err-why-in-Some-clause-alive
returns-in_err-why-in-Some-clause-alive g c =
    record {
      under_way = rw c.first_clash.ensures.line c.requires.alive.under_way;
      watched =
          c.first_clash.ensures.watched;
    }

pub returns-in_err-why-in-Some-clause-err : goal.returns-in_err-why-in-Some-clause-err
returns-in_err-why-in-Some-clause-err g c =
    let stopped : Interrupted g.O.Order.picks (stored_of g.R.Rule.value_of c.args.live.now.network.library)
    (set_of c.args.worldview.now) c.args.live.now.network.cells c.args.live.now.agenda.line c.args.order.now
    c.args.live.now.network.cells c.args.live.now.agenda.line c.args.order.now =
    record { steps = 0; last = c.args.order.now; turns = none; picked = inl refl } in
    rw c.first_clash.ensures.line (on_err _ stopped)

pub loop-steps-init : goal.loop-steps-init
loop-steps-init g c =
    record {
      same = refl;
      rest = refl;
      alive = record {
        under_way = rw c.first_clash.ensures.line c.requires.alive.under_way;
        watched =
            c.first_clash.ensures.watched;
      };
      seen = c.in_ok-look.ensures.same;
      free = c.first_clash.ensures.free c.in-None.is;
      turns = rw c.first_clash.ensures.line none;
      waiting = c.waiting-waiting.ensures.waiting ∙ ap length (sym c.first_clash.ensures.line);
      steps = omega arith;
      falls = rw c.first_clash.ensures.line (omega arith);
    }

pub turn-requires-clause-alive : goal.turn-requires-clause-alive
turn-requires-clause-alive g c =
    c.loop-steps.invariant.alive

pub turn-requires-clause-means : goal.turn-requires-clause-means
turn-requires-clause-means g c =
    rw c.loop-steps.invariant.same c.requires.means

pub turn-requires-clause-free : goal.turn-requires-clause-free
turn-requires-clause-free g c =
    c.loop-steps.invariant.free

pub explanation-requires-in-Some-clash-clause-cell : goal.explanation-requires-in-Some-clash-clause-cell
explanation-requires-in-Some-clash-clause-cell g c =
    rw c.in-Some-clash.is at c.in_ok-clash.ensures.cell

pub explanation-requires-in-Some-clash-clause-kept : goal.explanation-requires-in-Some-clash-clause-kept
explanation-requires-in-Some-clash-clause-kept g c =
    c.turn.ensures.alive.under_way.kept

pub returns-in-Some-clash-clause-ran : goal.returns-in-Some-clash-clause-ran
returns-in-Some-clash-clause-ran g c =
    record {
      library = c.turn.ensures.same ∙ c.loop-steps.invariant.same;
      rest = (let turn : Turn (stored_of g.R.Rule.value_of c.args.live.now.network.library) (set_of
          c.args.worldview.now)
          c.pick-place.result c.loop-steps.live.network.cells c.turn.new.live.network.cells
          c.loop-steps.live.agenda.line
          c.turn.new.live.agenda.line = turn_on (stored_of g.R.Rule.value_of) (set_of c.args.worldview.now)
          c.pick-place.result
          c.loop-steps.live.network.cells c.turn.new.live.network.cells c.loop-steps.live.agenda.line
          c.turn.new.live.agenda.line
          c.args.live.now.network.library c.loop-steps.live.network.library c.loop-steps.invariant.same
          c.in_ok-clash.ensures.turn
          in
          turn_rest (stored_of g.R.Rule.value_of c.args.live.now.network.library) (set_of c.args.worldview.now)
          c.pick-place.result
          c.args.live.now.network.cells c.loop-steps.live.network.cells c.turn.new.live.network.cells
          c.loop-steps.live.agenda.line
          c.turn.new.live.agenda.line turn c.loop-steps.invariant.rest);
    }

pub returns-in-Some-clash-clause-alive : goal.returns-in-Some-clash-clause-alive
returns-in-Some-clash-clause-alive g c =
    record { under_way = c.turn.ensures.alive.under_way; watched = c.turn.ensures.alive.watched }

pub returns-in-Some-clash-clause-turns : goal.returns-in-Some-clash-clause-turns
returns-in-Some-clash-clause-turns g c =
    let turn : Turn (stored_of g.R.Rule.value_of c.args.live.now.network.library) (set_of c.args.worldview.now)
    c.pick-place.result c.loop-steps.live.network.cells c.turn.new.live.network.cells c.loop-steps.live.agenda.line
    c.turn.new.live.agenda.line = turn_on (stored_of g.R.Rule.value_of) (set_of c.args.worldview.now)
    c.pick-place.result
    c.loop-steps.live.network.cells c.turn.new.live.network.cells c.loop-steps.live.agenda.line
    c.turn.new.live.agenda.line
    c.args.live.now.network.library c.loop-steps.live.network.library c.loop-steps.invariant.same
    c.in_ok-clash.ensures.turn
    in
    more c.loop-steps.steps c.pick-place.result c.loop-steps.live.network.cells _ c.loop-steps.live.agenda.line _
    c.loop-steps.order _ c.loop-steps.invariant.turns
    (rw c.loop-steps.invariant.waiting at c.pick-place.ensures.picks) turn

pub returns-in-Some-clash-clause-err : goal.returns-in-Some-clash-clause-err
returns-in-Some-clash-clause-err g c =
    tt

pub returns-in-Some-clash-clause-quiet : goal.returns-in-Some-clash-clause-quiet
returns-in-Some-clash-clause-quiet g c =
    λ e. cc e

pub returns-in-Some-clash-clause-rests : goal.returns-in-Some-clash-clause-rests
returns-in-Some-clash-clause-rests g c =
    λ e. cc e

pub returns-in-Some-clash-clause-clash : goal.returns-in-Some-clash-clause-clash
returns-in-Some-clash-clause-clash g c =
    record {
      cell = c.in-Some-clash.cell;
      clash = rw c.in-Some-clash.is at c.in_ok-clash.ensures.seen;
      lean = c.in_ok-why-in-Some-clash.ensures.lean;
    }

pub returns-in-Some-clash-clause-conflict : goal.returns-in-Some-clash-clause-conflict
returns-in-Some-clash-clause-conflict g c =
    clash_conflicts (stored_of g.R.Rule.value_of c.turn.new.live.network.library) c.turn.new.live.network.cells
    (set_of c.args.worldview.now) _ c.turn.ensures.alive.under_way.kept
    (record {
      cell = c.in-Some-clash.cell;
      clash = rw c.in-Some-clash.is at c.in_ok-clash.ensures.seen;
      lean = c.in_ok-why-in-Some-clash.ensures.lean;
    })

pub returns-in-Some-clash-clause-spent : goal.returns-in-Some-clash-clause-spent
returns-in-Some-clash-clause-spent g c =
    λ e. cc e

pub returns-in-Some-clash-clause-left : goal.returns-in-Some-clash-clause-left
returns-in-Some-clash-clause-left g c =
    λ e. cc e

pub returns-in-Some-clash-clause-free : goal.returns-in-Some-clash-clause-free
returns-in-Some-clash-clause-free g c =
    λ e. cc e

pub returns-in-Some-clash-clause-steps : goal.returns-in-Some-clash-clause-steps
returns-in-Some-clash-clause-steps g c =
    omega arith

pub returns-in-Some-clash-clause-at_rest : goal.returns-in-Some-clash-clause-at_rest
returns-in-Some-clash-clause-at_rest g c =
    λ empty free.
    let turn : Turn (stored_of g.R.Rule.value_of c.args.live.now.network.library) (set_of c.args.worldview.now)
    c.pick-place.result c.loop-steps.live.network.cells c.turn.new.live.network.cells c.loop-steps.live.agenda.line
    c.turn.new.live.agenda.line = turn_on (stored_of g.R.Rule.value_of) (set_of c.args.worldview.now)
    c.pick-place.result
    c.loop-steps.live.network.cells c.turn.new.live.network.cells c.loop-steps.live.agenda.line
    c.turn.new.live.agenda.line
    c.args.live.now.network.library c.loop-steps.live.network.library c.loop-steps.invariant.same
    c.in_ok-clash.ensures.turn
    in
    let idle = no_turns g.O.Order.picks (stored_of g.R.Rule.value_of c.args.live.now.network.library)
    (set_of c.args.worldview.now) c.args.live.now.network.cells c.args.live.now.agenda.line c.args.order.now
    (c.loop-steps.steps + 1) c.turn.new.live.network.cells c.turn.new.live.agenda.line c.pick-place.new.self
    (more c.loop-steps.steps c.pick-place.result c.loop-steps.live.network.cells _ c.loop-steps.live.agenda.line _
    c.loop-steps.order _ c.loop-steps.invariant.turns
    (rw c.loop-steps.invariant.waiting at c.pick-place.ensures.picks) turn) (ap length empty) in
    absurd (omega (arith, idle.0))

pub returns-in-Some-clash-clause-falls : goal.returns-in-Some-clash-clause-falls
returns-in-Some-clash-clause-falls g c =
    omega (arith, c.in_ok-clash.ensures.falls, c.loop-steps.invariant.falls)

pub returns-in-Some-clash-clause-earned : goal.returns-in-Some-clash-clause-earned
returns-in-Some-clash-clause-earned g c =
    λ e. cc e

pub returns-in_err-why-in-Some-clash-clause-ran : goal.returns-in_err-why-in-Some-clash-clause-ran
returns-in_err-why-in-Some-clash-clause-ran g c =
    record {
      library = c.turn.ensures.same ∙ c.loop-steps.invariant.same;
      rest = (let turn : Turn (stored_of g.R.Rule.value_of c.args.live.now.network.library) (set_of
          c.args.worldview.now)
          c.pick-place.result c.loop-steps.live.network.cells c.turn.new.live.network.cells
          c.loop-steps.live.agenda.line
          c.turn.new.live.agenda.line = turn_on (stored_of g.R.Rule.value_of) (set_of c.args.worldview.now)
          c.pick-place.result
          c.loop-steps.live.network.cells c.turn.new.live.network.cells c.loop-steps.live.agenda.line
          c.turn.new.live.agenda.line
          c.args.live.now.network.library c.loop-steps.live.network.library c.loop-steps.invariant.same
          c.in_ok-clash.ensures.turn
          in
          turn_rest (stored_of g.R.Rule.value_of c.args.live.now.network.library) (set_of c.args.worldview.now)
          c.pick-place.result
          c.args.live.now.network.cells c.loop-steps.live.network.cells c.turn.new.live.network.cells
          c.loop-steps.live.agenda.line
          c.turn.new.live.agenda.line turn c.loop-steps.invariant.rest);
    }

pub returns-in_err-why-in-Some-clash-clause-alive : goal.returns-in_err-why-in-Some-clash-clause-alive
returns-in_err-why-in-Some-clash-clause-alive g c =
    record { under_way = c.turn.ensures.alive.under_way; watched = c.turn.ensures.alive.watched }

pub returns-in_err-why-in-Some-clash-clause-err : goal.returns-in_err-why-in-Some-clash-clause-err
returns-in_err-why-in-Some-clash-clause-err g c =
    let turn : Turn (stored_of g.R.Rule.value_of c.args.live.now.network.library) (set_of c.args.worldview.now)
    c.pick-place.result c.loop-steps.live.network.cells c.turn.new.live.network.cells c.loop-steps.live.agenda.line
    c.turn.new.live.agenda.line = turn_on (stored_of g.R.Rule.value_of) (set_of c.args.worldview.now)
    c.pick-place.result
    c.loop-steps.live.network.cells c.turn.new.live.network.cells c.loop-steps.live.agenda.line
    c.turn.new.live.agenda.line
    c.args.live.now.network.library c.loop-steps.live.network.library c.loop-steps.invariant.same
    c.in_ok-clash.ensures.turn
    in
    let stopped : Interrupted g.O.Order.picks (stored_of g.R.Rule.value_of c.args.live.now.network.library)
    (set_of c.args.worldview.now) c.args.live.now.network.cells c.args.live.now.agenda.line c.args.order.now
    c.turn.new.live.network.cells c.turn.new.live.agenda.line c.pick-place.new.self =
    record {
      steps = c.loop-steps.steps + 1;
      last = c.pick-place.new.self;
      turns = more c.loop-steps.steps c.pick-place.result c.loop-steps.live.network.cells _
          c.loop-steps.live.agenda.line _
          c.loop-steps.order _ c.loop-steps.invariant.turns
          (rw c.loop-steps.invariant.waiting at c.pick-place.ensures.picks) turn;
      picked = inl refl;
    } in
    on_err _ stopped

pub loop-steps-preserved : goal.loop-steps-preserved
loop-steps-preserved g c =
    let turn : Turn (stored_of g.R.Rule.value_of c.args.live.now.network.library) (set_of c.args.worldview.now)
    c.pick-place.result c.loop-steps.live.network.cells c.turn.new.live.network.cells c.loop-steps.live.agenda.line
    c.turn.new.live.agenda.line = turn_on (stored_of g.R.Rule.value_of) (set_of c.args.worldview.now)
    c.pick-place.result
    c.loop-steps.live.network.cells c.turn.new.live.network.cells c.loop-steps.live.agenda.line
    c.turn.new.live.agenda.line
    c.args.live.now.network.library c.loop-steps.live.network.library c.loop-steps.invariant.same
    c.in_ok-clash.ensures.turn
    in
    let library = stored_of g.R.Rule.value_of c.args.live.now.network.library in
    record {
      same = c.turn.ensures.same ∙ c.loop-steps.invariant.same;
      rest = turn_rest library (set_of c.args.worldview.now) c.pick-place.result c.args.live.now.network.cells
          c.loop-steps.live.network.cells c.turn.new.live.network.cells c.loop-steps.live.agenda.line
          c.turn.new.live.agenda.line turn
          c.loop-steps.invariant.rest;
      alive = record { under_way = c.turn.ensures.alive.under_way; watched = c.turn.ensures.alive.watched };
      seen = c.turn.ensures.sees;
      free = c.in_ok-clash.ensures.free c.in-None-clash.is;
      waiting = c.waiting-waiting-in-loop-steps.ensures.waiting;
      turns = more c.loop-steps.steps c.pick-place.result c.loop-steps.live.network.cells _
          c.loop-steps.live.agenda.line _
          c.loop-steps.order _ c.loop-steps.invariant.turns
          (rw c.loop-steps.invariant.waiting at c.pick-place.ensures.picks) turn;
      steps = omega arith;
      falls = omega (arith, c.in_ok-clash.ensures.falls, c.loop-steps.invariant.falls);
    }

pub returns-in_err-clash-clause-ran : goal.returns-in_err-clash-clause-ran
returns-in_err-clash-clause-ran g c =
    record {
      library = c.turn.ensures.same ∙ c.loop-steps.invariant.same;
      rest = (rw c.in_err-clash.ensures.err c.loop-steps.invariant.rest);
    }

pub returns-in_err-clash-clause-alive : goal.returns-in_err-clash-clause-alive
returns-in_err-clash-clause-alive g c =
    record { under_way = c.turn.ensures.alive.under_way; watched = c.turn.ensures.alive.watched }

pub returns-in_err-clash-clause-err : goal.returns-in_err-clash-clause-err
returns-in_err-clash-clause-err g c =
    let stopped : Interrupted g.O.Order.picks (stored_of g.R.Rule.value_of c.args.live.now.network.library)
    (set_of c.args.worldview.now) c.args.live.now.network.cells c.args.live.now.agenda.line c.args.order.now
    c.turn.new.live.network.cells c.turn.new.live.agenda.line c.pick-place.new.self =
    record {
      steps = c.loop-steps.steps;
      last = c.loop-steps.order;
      turns = rw (c.in_err-clash.ensures.err, c.in_err-clash.ensures.err_line) c.loop-steps.invariant.turns;
      picked =
          inr (
            c.pick-place.result,
            rw (c.in_err-clash.ensures.err_line, ← c.loop-steps.invariant.waiting)
                c.pick-place.ensures.picks,
          );
    } in
    on_err _ stopped

pub returns-then-waiting-eq0-clause-ran : goal.returns-then-waiting-eq0-clause-ran
returns-then-waiting-eq0-clause-ran g c =
    record {
      library = c.loop-steps.invariant.same;
      rest = (c.loop-steps.invariant.rest);
    }

pub returns-then-waiting-eq0-clause-alive : goal.returns-then-waiting-eq0-clause-alive
returns-then-waiting-eq0-clause-alive g c =
    record { under_way = c.loop-steps.invariant.alive.under_way; watched = c.loop-steps.invariant.alive.watched }

pub returns-then-waiting-eq0-clause-turns : goal.returns-then-waiting-eq0-clause-turns
returns-then-waiting-eq0-clause-turns g c =
    c.loop-steps.invariant.turns

pub returns-then-waiting-eq0-clause-err : goal.returns-then-waiting-eq0-clause-err
returns-then-waiting-eq0-clause-err g c =
    tt

pub returns-then-waiting-eq0-clause-quiet : goal.returns-then-waiting-eq0-clause-quiet
returns-then-waiting-eq0-clause-quiet g c =
    λ quiet.
    settled (stored_of g.R.Rule.value_of c.loop-steps.live.network.library) (set_of c.args.worldview.now)
    c.loop-steps.live.network.cells c.loop-steps.live.agenda.line c.loop-steps.invariant.alive.under_way
    (nil_from_length c.loop-steps.live.agenda.line (omega (
      arith,
      c.loop-steps.invariant.waiting,
      c.if-waiting-eq0.true,
    )))
    c.loop-steps.invariant.free

pub returns-then-waiting-eq0-clause-rests : goal.returns-then-waiting-eq0-clause-rests
returns-then-waiting-eq0-clause-rests g c =
    λ quiet. nil_from_length c.loop-steps.live.agenda.line
    (omega (arith, c.loop-steps.invariant.waiting, c.if-waiting-eq0.true))

pub returns-then-waiting-eq0-clause-clash : goal.returns-then-waiting-eq0-clause-clash
returns-then-waiting-eq0-clause-clash g c =
    tt

pub returns-then-waiting-eq0-clause-conflict : goal.returns-then-waiting-eq0-clause-conflict
returns-then-waiting-eq0-clause-conflict g c =
    tt

pub returns-then-waiting-eq0-clause-spent : goal.returns-then-waiting-eq0-clause-spent
returns-then-waiting-eq0-clause-spent g c =
    λ e. cc e

pub returns-then-waiting-eq0-clause-left : goal.returns-then-waiting-eq0-clause-left
returns-then-waiting-eq0-clause-left g c =
    λ e. cc e

pub returns-then-waiting-eq0-clause-free : goal.returns-then-waiting-eq0-clause-free
returns-then-waiting-eq0-clause-free g c =
    λ e. cc e

pub returns-then-waiting-eq0-clause-steps : goal.returns-then-waiting-eq0-clause-steps
returns-then-waiting-eq0-clause-steps g c =
    c.loop-steps.invariant.steps

pub returns-then-waiting-eq0-clause-at_rest : goal.returns-then-waiting-eq0-clause-at_rest
returns-then-waiting-eq0-clause-at_rest g c =
    λ empty free. (
      refl,
      (no_turns g.O.Order.picks (stored_of g.R.Rule.value_of c.args.live.now.network.library)
          (set_of c.args.worldview.now) c.args.live.now.network.cells c.args.live.now.agenda.line c.args.order.now
          c.loop-steps.steps c.loop-steps.live.network.cells c.loop-steps.live.agenda.line c.loop-steps.order
          c.loop-steps.invariant.turns (ap length empty)).0,
    )

pub returns-then-waiting-eq0-clause-falls : goal.returns-then-waiting-eq0-clause-falls
returns-then-waiting-eq0-clause-falls g c =
    c.loop-steps.invariant.falls

pub returns-then-waiting-eq0-clause-earned : goal.returns-then-waiting-eq0-clause-earned
returns-then-waiting-eq0-clause-earned g c =
    λ e. cc e

pub returns-clause-ran : goal.returns-clause-ran
returns-clause-ran g c =
    record {
      library = c.loop-steps.invariant.same;
      rest = (c.loop-steps.invariant.rest);
    }

pub returns-clause-alive : goal.returns-clause-alive
returns-clause-alive g c =
    record { under_way = c.loop-steps.invariant.alive.under_way; watched = c.loop-steps.invariant.alive.watched }

pub returns-clause-turns : goal.returns-clause-turns
returns-clause-turns g c =
    c.loop-steps.invariant.turns

pub returns-clause-err : goal.returns-clause-err
returns-clause-err g c =
    tt

pub returns-clause-quiet : goal.returns-clause-quiet
returns-clause-quiet g c =
    λ e. cc e

pub returns-clause-rests : goal.returns-clause-rests
returns-clause-rests g c =
    λ e. cc e

pub returns-clause-clash : goal.returns-clause-clash
returns-clause-clash g c =
    tt

pub returns-clause-conflict : goal.returns-clause-conflict
returns-clause-conflict g c =
    tt

pub returns-clause-free : goal.returns-clause-free
returns-clause-free g c =
    λ spent. c.loop-steps.invariant.free

pub returns-clause-steps : goal.returns-clause-steps
returns-clause-steps g c =
    c.loop-steps.invariant.steps

pub returns-clause-at_rest : goal.returns-clause-at_rest
returns-clause-at_rest g c =
    λ empty free.
    let idle = no_turns g.O.Order.picks (stored_of g.R.Rule.value_of c.args.live.now.network.library)
    (set_of c.args.worldview.now) c.args.live.now.network.cells c.args.live.now.agenda.line c.args.order.now
    c.loop-steps.steps c.loop-steps.live.network.cells c.loop-steps.live.agenda.line c.loop-steps.order
    c.loop-steps.invariant.turns (ap length empty) in
    absurd (omega (arith, idle.1, c.loop-steps.invariant.waiting, c.if-waiting-eq0.false))

pub returns-clause-falls : goal.returns-clause-falls
returns-clause-falls g c =
    c.loop-steps.invariant.falls

pub returns-clause-earned : goal.returns-clause-earned
returns-clause-earned g c =
    λ spent.
    let library = stored_of g.R.Rule.value_of c.args.live.now.network.library in
    let most = under_way_within library (set_of c.args.worldview.now) c.args.live.now.network.cells
    c.args.live.now.agenda
    c.waiting-waiting.ensures.line c.requires.alive.under_way in
    let same = most_same library (stored_of g.R.Rule.value_of c.loop-steps.live.network.library)
    c.args.live.now.network.cells
    c.loop-steps.live.network.cells (ap (stored_of g.R.Rule.value_of) c.loop-steps.invariant.same)
    c.loop-steps.invariant.rest in
    omega (arith, most, c.loop-steps.invariant.falls, c.loop-steps.invariant.waiting, same)

pub returns-clause-bounded : goal.returns-clause-bounded
returns-clause-bounded g c =
    let library = stored_of g.R.Rule.value_of c.args.live.now.network.library in
    let most = under_way_within library (set_of c.args.worldview.now) c.args.live.now.network.cells
    c.args.live.now.agenda
    c.waiting-waiting.ensures.line c.requires.alive.under_way in
    let same = most_same library (stored_of g.R.Rule.value_of c.loop-steps.live.network.library)
    c.args.live.now.network.cells
    c.loop-steps.live.network.cells (ap (stored_of g.R.Rule.value_of) c.loop-steps.invariant.same)
    c.loop-steps.invariant.rest in
    omega (arith, most, c.loop-steps.invariant.falls, same)

pub returns-then-waiting-eq0-clause-bounded : goal.returns-then-waiting-eq0-clause-bounded
returns-then-waiting-eq0-clause-bounded g c =
    let library = stored_of g.R.Rule.value_of c.args.live.now.network.library in
    let most = under_way_within library (set_of c.args.worldview.now) c.args.live.now.network.cells
    c.args.live.now.agenda
    c.waiting-waiting.ensures.line c.requires.alive.under_way in
    let same = most_same library (stored_of g.R.Rule.value_of c.loop-steps.live.network.library)
    c.args.live.now.network.cells
    c.loop-steps.live.network.cells (ap (stored_of g.R.Rule.value_of) c.loop-steps.invariant.same)
    c.loop-steps.invariant.rest in
    omega (arith, most, c.loop-steps.invariant.falls, same)

pub returns-in-Some-clash-clause-bounded : goal.returns-in-Some-clash-clause-bounded
returns-in-Some-clash-clause-bounded g c =
    let library = stored_of g.R.Rule.value_of c.args.live.now.network.library in
    let most = under_way_within library (set_of c.args.worldview.now) c.args.live.now.network.cells
    c.args.live.now.agenda
    c.waiting-waiting.ensures.line c.requires.alive.under_way in
    let turn : Turn library (set_of c.args.worldview.now) c.pick-place.result c.loop-steps.live.network.cells
    c.turn.new.live.network.cells c.loop-steps.live.agenda.line c.turn.new.live.agenda.line =
    turn_on (stored_of g.R.Rule.value_of) (set_of c.args.worldview.now) c.pick-place.result
    c.loop-steps.live.network.cells c.turn.new.live.network.cells c.loop-steps.live.agenda.line
    c.turn.new.live.agenda.line
    c.args.live.now.network.library c.loop-steps.live.network.library c.loop-steps.invariant.same
    c.in_ok-clash.ensures.turn
    in
    let rest = turn_rest library (set_of c.args.worldview.now) c.pick-place.result c.args.live.now.network.cells
    c.loop-steps.live.network.cells c.turn.new.live.network.cells c.loop-steps.live.agenda.line
    c.turn.new.live.agenda.line turn
    c.loop-steps.invariant.rest in
    let same = most_same library (stored_of g.R.Rule.value_of c.turn.new.live.network.library)
    c.args.live.now.network.cells
    c.turn.new.live.network.cells (ap (stored_of g.R.Rule.value_of) (c.turn.ensures.same ∙
    c.loop-steps.invariant.same))
    rest in
    omega (arith, most, c.in_ok-clash.ensures.falls, c.loop-steps.invariant.falls, same)

pub returns-in-Some-clause-most : goal.returns-in-Some-clause-most
returns-in-Some-clause-most g c =
    under_way_within (stored_of g.R.Rule.value_of c.args.live.now.network.library) (set_of c.args.worldview.now)
    c.args.live.now.network.cells c.args.live.now.agenda c.waiting-waiting.ensures.line c.requires.alive.under_way

pub returns-in-Some-clash-clause-most : goal.returns-in-Some-clash-clause-most
returns-in-Some-clash-clause-most g c =
    under_way_within (stored_of g.R.Rule.value_of c.args.live.now.network.library) (set_of c.args.worldview.now)
    c.args.live.now.network.cells c.args.live.now.agenda c.waiting-waiting.ensures.line c.requires.alive.under_way

pub returns-then-waiting-eq0-clause-most : goal.returns-then-waiting-eq0-clause-most
returns-then-waiting-eq0-clause-most g c =
    under_way_within (stored_of g.R.Rule.value_of c.args.live.now.network.library) (set_of c.args.worldview.now)
    c.args.live.now.network.cells c.args.live.now.agenda c.waiting-waiting.ensures.line c.requires.alive.under_way

pub returns-clause-most : goal.returns-clause-most
returns-clause-most g c =
    under_way_within (stored_of g.R.Rule.value_of c.args.live.now.network.library) (set_of c.args.worldview.now)
    c.args.live.now.network.cells c.args.live.now.agenda c.waiting-waiting.ensures.line c.requires.alive.under_way

pub returns-in_err-look-clause-err : goal.returns-in_err-look-clause-err
returns-in_err-look-clause-err g c =
    let stopped : Interrupted g.O.Order.picks (stored_of g.R.Rule.value_of c.args.live.now.network.library)
    (set_of c.args.worldview.now) c.args.live.now.network.cells c.args.live.now.agenda.line c.args.order.now
    c.args.live.now.network.cells c.args.live.now.agenda.line c.args.order.now =
    record { steps = 0; last = c.args.order.now; turns = none; picked = inl refl } in
    on_err _ stopped

pub first_clash-requires-clause-known : goal.first_clash-requires-clause-known
first_clash-requires-clause-known g c =
    same_known (set_of c.look.new.self.worldview) (set_of c.args.worldview.now) _ _ c.in_ok-look.ensures.same
    c.look.ensures.known

pub invariant_of-live-2-clause-beliefs : goal.invariant_of-live-2-clause-beliefs
invariant_of-live-2-clause-beliefs g c =
    same_known (set_of c.args.worldview.now) (set_of c.look.new.self.worldview) _ _
    (λ p. sym (c.in_ok-look.ensures.same p)) c.first_clash.ensures.known
