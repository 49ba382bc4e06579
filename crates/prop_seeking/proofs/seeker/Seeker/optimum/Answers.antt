use Rattle.std.proofs.Common.{◌≡◌, ◌∙◌, ap, sym, subst, true, [], Some, None}
use Rattle.std.specs.Prelude.{Option, slice_index}
use Rattle.std.specs.String.{string_bytes}
use Rattle.std.proofs.lemmas.Result.{IfOk-weaker}
use Rattle.prop_workbench.specs.Sessions.{library_of, state_of}
use Rattle.prop_solve.specs.Questions.{is_optimum}
use Rattle.prop_solve.specs.declared.question.Goal.{Goal}
use Rattle.prop_solve.specs.declared.question.Goal.TheVariants.{Any, Differing}
use Rattle.prop_solve.specs.declared.solver.Plan.{Plan as PlanOf}
use Rattle.prop_seeking.specs.declared.inquiry.End.{End}
use Rattle.prop_seeking.specs.inner.Pieces.{best_text}
use Rattle.prop_seeking.specs.Plans.{SaysOne}
use Rattle.prop_seeking.specs.inner.Seekers.{IsAllBut, IsEnd, IsInquiry, IsLast, aim_of, ground_in, plan_of}
use Rattle.prop_seeking.proofs.ReplyLemmas.{best_so, last_fits, no_rows, none_so, optimum_quiet, refutes_all}
use Rattle.prop_seeking.proofs.ReplyLemmas.{one_plan_so, refutes_best, unsettled_so}
use Rattle.prop_seeking.proofs.seeker.Seeker.optimum.Goals as goal

pub returns-in-Some-Refuted-clause-answers : goal.returns-in-Some-Refuted-clause-answers
returns-in-Some-Refuted-clause-answers g c =
    let s = c.args.self.now.teller.session in
    let library = library_of g.R.Rule.value_of s in
    let ground = ground_in g.R.Rule.value_of s in
    let old = c.args.inquiry.now.solver in
    let inquiry = c.improve.new.self in
    let new = inquiry.solver in
    let same = c.in_ok-end.ensures.same in
    let inv : IsInquiry ground inquiry =
    rw (c.network.ensures, c.live.ensures, c.premises-premises.ensures, c.search.ensures, c.session-session.ensures) at
    c.in_ok-end.ensures.inquiry in
    let optimum : is_optimum old.goal ≡ true =
    subst (λ (x : Goal). is_optimum x ≡ true) (sym c.requires.goal) c.requires.optimum in
    let quiet = optimum_quiet old.goal optimum in
    let quiet_now : new.goal ≡ Differing → ⊥ = λ e. quiet (sym same.goal ∙ e) in
    let all : IsAllBut ground new.excuses c.in-Some-Refuted.by =
    subst (λ (e : End). IsEnd ground new.excuses e) c.in-Some-Refuted.is-1
    (rw (c.network.ensures, c.live.ensures, c.premises-premises.ensures, c.search.ensures, c.session-session.ensures) at
    c.in_ok-end.ensures.end) in
    let plan = c.in-Some-Refuted.plan.now in
    let by = c.in-Some-Refuted.by in
    let some : inquiry.last ≡ Some plan = cc in
    let fits = last_fits ground new inquiry.last plan some (inv.last quiet_now) in
    let refutes = refutes_best ground old new inquiry.last plan by optimum same.goal same.named
    c.requires.inquiry.first some (inv.last quiet_now) all in
    IfOk-weaker c.best.result _ _
    (λ t is. λ most. best_so library (state_of s) old most old.excuses new.excuses (string_bytes t) (plan_of plan) by
    optimum quiet c.requires.inquiry.first fits refutes
    (is ∙ ap (λ (x : Goal). best_text (state_of s) x (plan_of plan) by) (sym c.requires.goal))) c.best.ensures

pub returns-in-Some-Open-clause-answers : goal.returns-in-Some-Open-clause-answers
returns-in-Some-Open-clause-answers g c =
    let s = c.args.self.now.teller.session in
    let library = library_of g.R.Rule.value_of s in
    let ground = ground_in g.R.Rule.value_of s in
    let old = c.args.inquiry.now.solver in
    let inquiry = c.improve.new.self in
    let new = inquiry.solver in
    let same = c.in_ok-end.ensures.same in
    let inv : IsInquiry ground inquiry =
    rw (c.network.ensures, c.live.ensures, c.premises-premises.ensures, c.search.ensures, c.session-session.ensures) at
    c.in_ok-end.ensures.inquiry in
    let optimum : is_optimum old.goal ≡ true =
    subst (λ (x : Goal). is_optimum x ≡ true) (sym c.requires.goal) c.requires.optimum in
    let quiet = optimum_quiet old.goal optimum in
    IfOk-weaker c.so_far.result _ _
    (λ t says. λ most. one_plan_so library (state_of s) old most old.excuses new.excuses (string_bytes t) quiet
    (subst (λ (P : Type 0). P) (λ i. SaysOne library (state_of s) (aim_of (sym c.requires.goal i))
    (slice_index (same.named i) 0) (string_bytes t)) says)) c.so_far.ensures

pub returns-in-None-Refuted-clause-answers : goal.returns-in-None-Refuted-clause-answers
returns-in-None-Refuted-clause-answers g c =
    let s = c.args.self.now.teller.session in
    let library = library_of g.R.Rule.value_of s in
    let ground = ground_in g.R.Rule.value_of s in
    let old = c.args.inquiry.now.solver in
    let inquiry = c.improve.new.self in
    let new = inquiry.solver in
    let same = c.in_ok-end.ensures.same in
    let inv : IsInquiry ground inquiry =
    rw (c.network.ensures, c.live.ensures, c.premises-premises.ensures, c.search.ensures, c.session-session.ensures) at
    c.in_ok-end.ensures.inquiry in
    let optimum : is_optimum old.goal ≡ true =
    subst (λ (x : Goal). is_optimum x ≡ true) (sym c.requires.goal) c.requires.optimum in
    let quiet = optimum_quiet old.goal optimum in
    let quiet_now : new.goal ≡ Differing → ⊥ = λ e. quiet (sym same.goal ∙ e) in
    let all : IsAllBut ground new.excuses c.in-None-Refuted.by =
    subst (λ (e : End). IsEnd ground new.excuses e) c.in-None-Refuted.is-1
    (rw (c.network.ensures, c.live.ensures, c.premises-premises.ensures, c.search.ensures, c.session-session.ensures) at
    c.in_ok-end.ensures.end) in
    let none : inquiry.last ≡ None = cc in
    let nothing : new.excuses ≡ [] = subst (λ (o : Option PlanOf). IsLast ground new o) none (inv.last quiet_now) in
    IfOk-weaker c.none.result _ _
    (λ t is. λ most. none_so library (state_of s) old most old.excuses new.excuses (string_bytes t)
    c.in-None-Refuted.by (no_rows old.goal old.excuses new.excuses quiet)
    (refutes_all ground new.excuses c.in-None-Refuted.by nothing all) is) c.none.ensures

pub returns-clause-answers : goal.returns-clause-answers
returns-clause-answers g c =
    let s = c.args.self.now.teller.session in
    let library = library_of g.R.Rule.value_of s in
    let old = c.args.inquiry.now.solver in
    let new = c.improve.new.self.solver in
    let optimum : is_optimum old.goal ≡ true =
    subst (λ (x : Goal). is_optimum x ≡ true) (sym c.requires.goal) c.requires.optimum in
    IfOk-weaker c.unsettled.result _ _
    (λ t is. λ most. unsettled_so library (state_of s) old most old.excuses new.excuses (string_bytes t)
    (no_rows old.goal old.excuses new.excuses (optimum_quiet old.goal optimum)) is) c.unsettled.ensures
