use Rattle.std.proofs.Common.{◌≡◌, ◌∙◌, ap, sym, subst, true, [], Some, None}
use Rattle.std.specs.Prelude.{Option}
use Rattle.std.specs.String.{string_bytes}
use Rattle.std.proofs.lemmas.Result.{IfOk-weaker}
use Rattle.prop_workbench.specs.Sessions.{library_of, state_of}
use Rattle.prop_solve.specs.Questions.{is_optimum}
use Rattle.prop_solve.specs.declared.question.Goal.{Goal}
use Rattle.prop_solve.specs.declared.question.Goal.TheVariants.{Any, Differing}
use Rattle.prop_solve.specs.declared.solver.Plan.{Plan as PlanOf}
use Rattle.prop_seeking.specs.declared.inquiry.End.{End}
use Rattle.prop_seeking.specs.inner.Seekers.{IsAllBut, IsEnd, IsInquiry, IsLast, ground_in, plan_of}
use Rattle.prop_seeking.proofs.ReplyLemmas.{last_fits, no_rows, none_so, points_so, refutes_all, unsettled_so}
use Rattle.prop_seeking.proofs.seeker.Seeker.points.Goals as goal

pub returns-in-Some-default-clause-answers : goal.returns-in-Some-default-clause-answers
returns-in-Some-default-clause-answers g c =
    let s = c.args.self.now.teller.session in
    let library = library_of g.R.Rule.value_of s in
    let ground = ground_in g.R.Rule.value_of s in
    let old = c.args.inquiry.now.solver in
    let inquiry = c.find.new.self in
    let new = inquiry.solver in
    let same = c.in_ok-end.ensures.same in
    let inv : IsInquiry ground inquiry =
    rw (c.network.ensures, c.live.ensures, c.premises-premises.ensures, c.search.ensures, c.session-session.ensures) at
    c.in_ok-end.ensures.inquiry in
    let quiet : old.goal ≡ Differing → ⊥ = λ e. let f : Any ≡ Differing = sym c.requires.goal ∙ e in cc in
    let quiet_now : new.goal ≡ Differing → ⊥ = λ e. quiet (sym same.goal ∙ e) in
    let plan = c.in-Some-default.plan.now in
    let some : inquiry.last ≡ Some plan = cc in
    let fits = last_fits ground new inquiry.last plan some (inv.last quiet_now) in
    IfOk-weaker c.plan.result _ _
    (λ t is. λ most. points_so library (state_of s) old most old.excuses new.excuses (string_bytes t) (plan_of plan)
    c.requires.goal quiet fits is) c.plan.ensures

pub returns-in-None-Refuted-clause-answers : goal.returns-in-None-Refuted-clause-answers
returns-in-None-Refuted-clause-answers g c =
    let s = c.args.self.now.teller.session in
    let library = library_of g.R.Rule.value_of s in
    let ground = ground_in g.R.Rule.value_of s in
    let old = c.args.inquiry.now.solver in
    let inquiry = c.find.new.self in
    let new = inquiry.solver in
    let same = c.in_ok-end.ensures.same in
    let inv : IsInquiry ground inquiry =
    rw (c.network.ensures, c.live.ensures, c.premises-premises.ensures, c.search.ensures, c.session-session.ensures) at
    c.in_ok-end.ensures.inquiry in
    let quiet : old.goal ≡ Differing → ⊥ = λ e. let f : Any ≡ Differing = sym c.requires.goal ∙ e in cc in
    let quiet_now : new.goal ≡ Differing → ⊥ = λ e. quiet (sym same.goal ∙ e) in
    let all : IsAllBut ground new.excuses c.in-None-Refuted.by =
    subst (λ (e : End). IsEnd ground new.excuses e) c.in-None-Refuted.is-1
    (rw (c.network.ensures, c.live.ensures, c.premises-premises.ensures, c.search.ensures, c.session-session.ensures) at
    c.in_ok-end.ensures.end) in
    let none : inquiry.last ≡ None = cc in
    let nothing : new.excuses ≡ [] = subst (λ (o : Option PlanOf). IsLast ground new o) none (inv.last quiet_now) in
    IfOk-weaker c.none.result _ _
    (λ t is. λ most. none_so library (state_of s) old most old.excuses new.excuses (string_bytes t)
    c.in-None-Refuted.by (no_rows old.goal old.excuses new.excuses quiet)
    (refutes_all ground new.excuses c.in-None-Refuted.by nothing all) is) c.none.ensures

pub returns-clause-answers : goal.returns-clause-answers
returns-clause-answers g c =
    let s = c.args.self.now.teller.session in
    let library = library_of g.R.Rule.value_of s in
    let old = c.args.inquiry.now.solver in
    let new = c.find.new.self.solver in
    let quiet : old.goal ≡ Differing → ⊥ = λ e. let f : Any ≡ Differing = sym c.requires.goal ∙ e in cc in
    IfOk-weaker c.unsettled.result _ _
    (λ t is. λ most. unsettled_so library (state_of s) old most old.excuses new.excuses (string_bytes t)
    (no_rows old.goal old.excuses new.excuses quiet) is) c.unsettled.ensures
