use Rattle.std.proofs.Common.{◌≡◌, ◌+◌, inr, subst, arith}
use Rattle.prop_procedures.specs.Kept.{stored_of}
use Rattle.prop_cells.specs.Data.{problem_of}
use Rattle.prop_numbers.specs.Sets.{set_of}
use Rattle.prop_amb.specs.Going.{Passes}
use Rattle.prop_amb.specs.Resolving.{IsReason}
use Rattle.prop_amb.specs.inner.Refuting.{MayStep}
use Rattle.prop_amb.proofs.DecidingLaws.{goes_by, passes_on, are_shifted}
use Rattle.prop_amb.proofs.RefutingLaws.{why_pass}
use Rattle.prop_amb.proofs.settling.decide.Goals as goal

pub shown-requires : goal.shown-requires
shown-requires g c = rw c.in-Clash.is at c.requires.refuted

pub step-requires : goal.step-requires
step-requires g c = rw c.in-Against.is at c.in_ok-premises.ensures.step

pub returns-then-most-eq0-clause-unsettled : goal.returns-then-most-eq0-clause-unsettled
returns-then-most-eq0-clause-unsettled g c =
    λ e.
    let step : MayStep c.args.search.now c.in-Against.place c.in-Against.reason =
    rw c.in-Against.is at c.in_ok-premises.ensures.step in
    inr (c.if-most-eq0.true, why_pass c.args.search.now c.in-Against.place c.in-Against.reason step)

pub returns-in-RuledOut-clause-contradiction : goal.returns-in-RuledOut-clause-contradiction
returns-in-RuledOut-clause-contradiction g c =
    let problem = problem_of (stored_of g.R.Rule.value_of c.args.live.now.network.library)
    c.args.live.now.network.cells in
    rw c.in-RuledOut.is at (c.in_ok-premises.ensures.resolved problem c.requires.search)

pub returns-in_err-steps-in-Against-clause-search : goal.returns-in_err-steps-in-Against-clause-search
returns-in_err-steps-in-Against-clause-search g c =
    let problem = problem_of (stored_of g.R.Rule.value_of c.args.live.now.network.library)
    c.args.live.now.network.cells in
    let reason : IsReason problem c.args.search.now c.in-Against.place (set_of c.in-Against.reason) =
    rw c.in-Against.is at (c.in_ok-premises.ensures.resolved problem c.requires.search) in
    c.pass-passed.ensures.search problem (c.step.ensures.search problem reason c.requires.search)

pub returns-in_ok-steps-in-Against-clause-search : goal.returns-in_ok-steps-in-Against-clause-search
returns-in_ok-steps-in-Against-clause-search g c =
    let problem = problem_of (stored_of g.R.Rule.value_of c.args.live.now.network.library)
    c.args.live.now.network.cells in
    let reason : IsReason problem c.args.search.now c.in-Against.place (set_of c.in-Against.reason) =
    rw c.in-Against.is at (c.in_ok-premises.ensures.resolved problem c.requires.search) in
    c.pass-passed.ensures.search problem (c.step.ensures.search problem reason c.requires.search)

pub returns-in_ok-steps-in-Against-clause-moves : goal.returns-in_ok-steps-in-Against-clause-moves
returns-in_ok-steps-in-Against-clause-moves g c = λ _.
    let s = c.args.search.now in
    let first : Passes s 1 c.step.new.self =
    goes_by s c.step.new.self c.in-Against.place c.in-Against.reason c.in_ok-before-in-Against.ensures.ok in
    let more = c.in_ok-steps-in-Against.field-0 in
    let e : 1 + more ≡ more + 1 = omega arith in
    subst (λ n. Passes s n c.pass-passed.new.search) e (passes_on first c.in_ok-steps-in-Against.ensures.moves)

pub returns-in_ok-steps-in-Against-clause-shifted : goal.returns-in_ok-steps-in-Against-clause-shifted
returns-in_ok-steps-in-Against-clause-shifted g c = λ _.
    are_shifted c.args.live.now.network.cells c.args.search.now c.pass-passed.new.search c.args.live.now.agenda.line
    c.alert_shifted.new.live.agenda.line c.requires.stand c.worldview.ensures.stand
    (rw (c.worldview.ensures.same, c.in_ok-before-in-Against.ensures.before) at c.alert_shifted.ensures.shifted)

pub returns-in-RuledOut-clause-named : goal.returns-in-RuledOut-clause-named
returns-in-RuledOut-clause-named g c = rw c.in-RuledOut.is at c.in_ok-premises.ensures.blamed
