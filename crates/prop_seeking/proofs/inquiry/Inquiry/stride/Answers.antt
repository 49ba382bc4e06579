use Rattle.std.proofs.Common.{◌≡◌, ◌⊎◌, Some, None, true, refl, subst, sym}
use Rattle.prop_procedures.specs.Kept.{stored_of}
use Rattle.prop_solve.specs.Questions.{is_optimum}
use Rattle.prop_seeking.specs.declared.inquiry.Inquiry.{Inquiry as InquiryOf}
use Rattle.prop_seeking.specs.inner.Seekers.{ground_at}
use Rattle.prop_seeking.proofs.InquiryLemmas.{on_found, open_yet, told_apart}
use Rattle.prop_seeking.proofs.inquiry.Inquiry.stride.Goals as goal

pub returns-in-Found-clause-inquiry : goal.returns-in-Found-clause-inquiry
returns-in-Found-clause-inquiry g c =
    let ground =
    ground_at (stored_of g.R.Rule.value_of c.args.network.now.library) c.args.network.now.cells c.args.premises.now in
    let inv = c.loop.invariant in
    let before = c.news.new.self in
    let inquiry = told_apart ground c.loop.self before c.news.ensures inv.inquiry in
    let yet = subst (λ (x : InquiryOf). (is_optimum x.solver.goal ≡ true) ⊎ (x.last ≡ None)) (sym c.news.ensures)
    (open_yet c.args.self.now c.loop.self c.requires.under_way inv.same inv.last) in
    on_found ground before (record {
      solver = c.advance.new.self;
      last = Some c.in-Found.plan;
      told = before.told;
      past = before.past;
    })
    inquiry c.in_ok-plan.ensures.asks c.in_ok-plan.ensures.search refl c.in_ok-plan.field-0 c.in-Found.plan
    c.in-Found.is c.in_ok-plan.ensures.answer yet refl
