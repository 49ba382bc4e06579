use Rattle.std.proofs.Common.{refl}
use Rattle.std.proofs.lemmas.Result.{IfOk-weaker}
use Rattle.prop_procedures.specs.Kept.{stored_of}
use Rattle.prop_cells.specs.Data.{problem_of}
use Rattle.prop_numbers.specs.Sets.{set_of}
use Rattle.prop_amb.specs.Search.{users_of, choices_in}
use Rattle.prop_amb.specs.Refuted.{IsRuledOut}
use Rattle.prop_amb.specs.Culprits.{IsBlamed}
use Rattle.prop_amb.specs.Going.{work}
use Rattle.prop_amb.proofs.SteppingLaws.{no_steps, steps_then}
use Rattle.prop_amb.proofs.stepping.step_once.Goals as goal

pub returns-in-Settled-clause-told : goal.returns-in-Settled-clause-told
returns-in-Settled-clause-told g c =
    let e = c.in_ok-end.ensures in
    record {
      ready = work c.settle.new.search c.settle.new.live.network.cells c.settle.new.live.agenda.line c.settle.new.order;
      readied = no_steps e.steps e.gone;
      taken = (refl, e.settled c.in-Settled.is);
    }

pub returns-in-Contradiction-clause-told : goal.returns-in-Contradiction-clause-told
returns-in-Contradiction-clause-told g c =
    let e = c.in_ok-end.ensures in
    let s = c.settle.new.search in
    let n = c.in-Contradiction.premises in
    let problem = problem_of (stored_of g.R.Rule.value_of c.args.live.now.network.library)
    c.args.live.now.network.cells in
    let out : IsRuledOut problem (users_of s) (choices_in s) s.listed (set_of n) =
    rw c.in-Contradiction.is at e.contradiction in
    let blamed : IsBlamed s (set_of n) = rw c.in-Contradiction.is at e.named in
    record {
      ready = work s c.settle.new.live.network.cells c.settle.new.live.agenda.line c.settle.new.order;
      readied = no_steps e.steps e.gone;
      taken = (refl, out, blamed);
    }

pub returns-in-Unsettled-clause-told : goal.returns-in-Unsettled-clause-told
returns-in-Unsettled-clause-told g c =
    let e = c.in_ok-end.ensures in
    let s = c.settle.new in
    let t = c.take_step.new in
    let mid = work s.search s.live.network.cells s.live.agenda.line s.order in
    let end = work t.search t.live.network.cells t.live.agenda.line t.order in
    IfOk-weaker c.take_step.result _ _
    (λ step taken. steps_then g.O.Order.picks (stored_of g.R.Rule.value_of) c.args.live.now.network.library
    s.live.network.library e.ran.library c.args.live.now.network.cells s.live.network.cells e.ran.rest mid step end
    (no_steps e.steps e.gone) taken) c.take_step.ensures.told
