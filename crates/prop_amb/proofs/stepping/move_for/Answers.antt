use Rattle.std.proofs.Common.{◌≡◌, ◌<◌, ℕ, List, All, length, refl, sym, subst}
use Rattle.prop_procedures.specs.Kept.{stored_of}
use Rattle.prop_cells.specs.Data.{problem_of}
use Rattle.prop_numbers.specs.Sets.{set_of}
use Rattle.prop_amb.specs.Refuted.{IsRuledOut}
use Rattle.prop_amb.specs.Search.{users_of, choices_in}
use Rattle.prop_amb.specs.Culprits.{IsBlamed}
use Rattle.prop_amb.specs.Resolving.{IsReason}
use Rattle.prop_amb.specs.inner.Refuting.{MayStep, HasStepped}
use Rattle.prop_amb.proofs.DecidingLaws.{are_shifted}
use Rattle.prop_amb.proofs.PlaceLemmas.{get_below_length}
use Rattle.prop_amb.proofs.RefutingLaws.{step_may}
use Rattle.prop_amb.proofs.SteppingLaws.{reason_known, has_passed}
use Rattle.prop_amb.proofs.stepping.move_for.Goals as goal

pub side_at-side-requires : goal.side_at-side-requires
side_at-side-requires g c =
    let s = c.args.search.now in
    let step : MayStep s c.in-Against.place c.in-Against.reason =
    rw c.in-Against.is at c.in_ok-premises.ensures.step in
    let may = step_may s c.in-Against.place c.in-Against.reason step in
    get_below_length s.list c.in-Against.place may.side may.side_at

pub step-requires : goal.step-requires
step-requires g c = rw c.in-Against.is at c.in_ok-premises.ensures.step

pub returns-in-RuledOut-clause-told : goal.returns-in-RuledOut-clause-told
returns-in-RuledOut-clause-told g c =
    let s = c.args.search.now in
    let n = c.in-RuledOut.premises in
    let problem = problem_of (stored_of g.R.Rule.value_of c.args.live.now.network.library)
    c.args.live.now.network.cells in
    let out : IsRuledOut problem (users_of s) (choices_in s) s.listed (set_of n) =
    rw c.in-RuledOut.is at (c.in_ok-premises.ensures.resolved problem c.requires.search) in
    let blamed : IsBlamed s (set_of n) = rw c.in-RuledOut.is at c.in_ok-premises.ensures.blamed in
    (refl, refl, out, blamed)

pub returns-in_ok-before-in-Against-clause-search :
    goal.returns-in_ok-before-in-Against-clause-search
returns-in_ok-before-in-Against-clause-search g c =
    let problem = problem_of (stored_of g.R.Rule.value_of c.args.live.now.network.library)
    c.args.live.now.network.cells in
    let reason : IsReason problem c.args.search.now c.in-Against.place (set_of c.in-Against.reason) =
    rw c.in-Against.is at (c.in_ok-premises.ensures.resolved problem c.requires.search) in
    c.step.ensures.search problem reason c.requires.search

pub returns-in_ok-before-in-Against-clause-told : goal.returns-in_ok-before-in-Against-clause-told
returns-in_ok-before-in-Against-clause-told g c =
    let s = c.args.search.now in
    let problem = problem_of (stored_of g.R.Rule.value_of c.args.live.now.network.library)
    c.args.live.now.network.cells in
    let step : MayStep s c.in-Against.place c.in-Against.reason =
    rw c.in-Against.is at c.in_ok-premises.ensures.step in
    let there = step_may s c.in-Against.place c.in-Against.reason step in
    let reason : IsReason problem s c.in-Against.place (set_of c.in-Against.reason) =
    rw c.in-Against.is at (c.in_ok-premises.ensures.resolved problem c.requires.search) in
    let same : c.in-Against.reason ≡ c.in_ok-nogood-in-Against.nogood = sym c.in_ok-nogood-in-Against.ensures in (
      has_passed s c.step.new.self _
          (subst (λ n. HasStepped s c.in-Against.place n c.step.new.self) same c.in_ok-before-in-Against.ensures.ok)
          c.side_at-side.ensures.side
          (subst (λ (n : List ℕ). All (λ p. p < length s.premises) n) same
          (reason_known problem s c.in-Against.place there.choice there.side c.in-Against.reason c.requires.stand
          there.choice_at there.side_at (reason there.choice there.side there.choice_at there.side_at)))
          c.in_ok-before-in-Against.ensures.before,
      are_shifted c.args.live.now.network.cells s c.step.new.self c.args.live.now.agenda.line
          c.alert_shifted.new.live.agenda.line c.requires.stand c.worldview.ensures.stand
          (rw (c.worldview.ensures.same, c.in_ok-before-in-Against.ensures.before) at c.alert_shifted.ensures.shifted),
    )
