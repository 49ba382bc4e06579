use Rattle.std.proofs.Common.{◌≡◌, ◌∙◌, ◌<◌, ◌++◌, [], All, ℕ, List, ap, length, sym, subst, map, Some, None}
use Rattle.std.specs.Prelude.{◌==◌}
use Rattle.std.specs.String.{string_bytes}
use Rattle.std.proofs.lemmas.Result.{IfOk-weaker}
use Rattle.prop_workbench.specs.Sessions.{library_of, state_of}
use Rattle.prop_seeking.specs.Texts.{many_text}
use Rattle.prop_seeking.specs.declared.inquiry.End.{End}
use Rattle.prop_seeking.specs.inner.Seekers.{AreFound, IsAllBut, IsEnd, IsInquiry, ground_in, plan_of}
use Rattle.prop_seeking.proofs.ReplyLemmas.{many_so, none_found, none_listed, none_so, refutes_all}
use Rattle.prop_seeking.proofs.ReplyLemmas.{refutes_others, same_rows, unsettled_so}
use Rattle.prop_seeking.proofs.seeker.Seeker.plans.Goals as goal

pub returns-then-not-has_told-clause-answers : goal.returns-then-not-has_told-clause-answers
returns-then-not-has_told-clause-answers g c =
    let s = c.args.self.now.teller.session in
    let library = library_of g.R.Rule.value_of s in
    let ground = ground_in g.R.Rule.value_of s in
    let old = c.args.inquiry.now.solver in
    let inquiry = c.list.new.self in
    let new = inquiry.solver in
    let most = c.args.asked.now.most in
    let plans = map plan_of c.list.new.plans.found.items in
    let found : AreFound ground old.named most old.excuses new.excuses plans =
    rw (c.network.ensures, c.live.ensures, c.premises-premises.ensures, c.search.ensures, c.session-session.ensures) at
    c.in_ok-end.ensures.found in
    let all : IsAllBut ground new.excuses c.in-Refuted.by =
    subst (λ (e : End). IsEnd ground new.excuses e) c.in-Refuted.is
    (rw (c.network.ensures, c.live.ensures, c.premises-premises.ensures, c.search.ensures, c.session-session.ensures) at
    c.in_ok-end.ensures.end) in
    let empty : plans ≡ [] = none_listed c.list.new.plans.found.items
    (ap (λ n. n == 0) (sym c.list.new.plans.found.ok.0) ∙ sym c.is_empty.ensures ∙ c.if-is_empty.true) in
    let rows = same_rows old.goal old.excuses new.excuses
    (none_found ground old.named most old.excuses new.excuses plans empty found) in
    IfOk-weaker c.none.result _ _
    (λ t is. none_so library (state_of s) old most old.excuses new.excuses (string_bytes t) c.in-Refuted.by rows
    (refutes_all ground new.excuses c.in-Refuted.by (c.has_told.ensures c.if-not-has_told.true) all) is) c.none.ensures

pub returns-in-Refuted-clause-answers : goal.returns-in-Refuted-clause-answers
returns-in-Refuted-clause-answers g c =
    let s = c.args.self.now.teller.session in
    let library = library_of g.R.Rule.value_of s in
    let ground = ground_in g.R.Rule.value_of s in
    let old = c.args.inquiry.now.solver in
    let inquiry = c.list.new.self in
    let new = inquiry.solver in
    let most = c.args.asked.now.most in
    let plans = map plan_of c.list.new.plans.found.items in
    let found : AreFound ground old.named most old.excuses new.excuses plans =
    rw (c.network.ensures, c.live.ensures, c.premises-premises.ensures, c.search.ensures, c.session-session.ensures) at
    c.in_ok-end.ensures.found in
    let all : IsAllBut ground new.excuses c.in-Refuted.by =
    subst (λ (e : End). IsEnd ground new.excuses e) c.in-Refuted.is
    (rw (c.network.ensures, c.live.ensures, c.premises-premises.ensures, c.search.ensures, c.session-session.ensures) at
    c.in_ok-end.ensures.end) in
    let within = c.requires.inquiry.within in
    let refutes = refutes_others ground old.named new.excuses c.in-Refuted.by within found.rows all in
    let named = c.deref.ensures.value ∙ sym c.requires.named in
    let items = c.deref-else-is_empty.ensures.value in
    IfOk-weaker c.listing.result _ _
    (λ t is. many_so library (state_of s) old most old.excuses new.excuses (string_bytes t) plans
    (Some c.in-Refuted.by) c.requires.goal found.fit found.few found.grown refutes
    (is ∙ (λ i. many_text (state_of s) (named i) (map plan_of (items i)) (Some c.in-Refuted.by)))) c.listing.ensures

pub returns-then-is_empty-2-clause-answers : goal.returns-then-is_empty-2-clause-answers
returns-then-is_empty-2-clause-answers g c =
    let s = c.args.self.now.teller.session in
    let library = library_of g.R.Rule.value_of s in
    let ground = ground_in g.R.Rule.value_of s in
    let old = c.args.inquiry.now.solver in
    let inquiry = c.list.new.self in
    let new = inquiry.solver in
    let most = c.args.asked.now.most in
    let plans = map plan_of c.list.new.plans.found.items in
    let found : AreFound ground old.named most old.excuses new.excuses plans =
    rw (c.network.ensures, c.live.ensures, c.premises-premises.ensures, c.search.ensures, c.session-session.ensures) at
    c.in_ok-end.ensures.found in
    let empty : plans ≡ [] =
    none_listed c.list.new.plans.found.items
    (ap (λ n. n == 0) (sym c.list.new.plans.found.ok.0) ∙ sym c.is_empty-in-Open.ensures ∙ c.if-is_empty-2.true) in
    let rows = same_rows old.goal old.excuses new.excuses
    (none_found ground old.named most old.excuses new.excuses plans empty found) in
    IfOk-weaker c.unsettled.result _ _
    (λ t is. unsettled_so library (state_of s) old most old.excuses new.excuses (string_bytes t) rows is)
    c.unsettled.ensures

pub returns-clause-answers : goal.returns-clause-answers
returns-clause-answers g c =
    let s = c.args.self.now.teller.session in
    let library = library_of g.R.Rule.value_of s in
    let ground = ground_in g.R.Rule.value_of s in
    let old = c.args.inquiry.now.solver in
    let inquiry = c.list.new.self in
    let new = inquiry.solver in
    let most = c.args.asked.now.most in
    let plans = map plan_of c.list.new.plans.found.items in
    let found : AreFound ground old.named most old.excuses new.excuses plans =
    rw (c.network.ensures, c.live.ensures, c.premises-premises.ensures, c.search.ensures, c.session-session.ensures) at
    c.in_ok-end.ensures.found in
    let named = c.deref-else-is_empty-2.ensures.value ∙ sym c.requires.named in
    let items = c.deref-else-is_empty-2-2.ensures.value in
    IfOk-weaker c.listing-else-is_empty-2.result _ _
    (λ t is. many_so library (state_of s) old most old.excuses new.excuses (string_bytes t) plans None
    c.requires.goal found.fit found.few found.grown tt
    (is ∙ (λ i. many_text (state_of s) (named i) (map plan_of (items i)) None))) c.listing-else-is_empty-2.ensures
