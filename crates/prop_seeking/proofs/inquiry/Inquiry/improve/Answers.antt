use Rattle.std.proofs.Common.{◌≡◌, ◌∙◌, Some, true, inl, refl, sym, subst}
use Rattle.prop_procedures.specs.Kept.{stored_of}
use Rattle.prop_solve.specs.Questions.{is_optimum}
use Rattle.prop_solve.specs.declared.question.Goal.{Goal}
use Rattle.prop_seeking.specs.inner.Seekers.{ground_at}
use Rattle.prop_seeking.proofs.InquiryLemmas.{on_found, on_kept, open_same, refuted_ends, refuted_same}
use Rattle.prop_seeking.proofs.inquiry.Inquiry.improve.Goals as goal

pub loop-preserved : goal.loop-preserved
loop-preserved g c =
    let ground =
    ground_at (stored_of g.R.Rule.value_of c.args.network.now.library) c.args.network.now.cells c.args.premises.now in
    let inv = c.loop.invariant in
    let asks = c.in_ok-plan.ensures.asks in
    let optimum : is_optimum c.loop.self.solver.goal ≡ true =
    subst (λ (x : Goal). is_optimum x ≡ true) (sym inv.same.goal) c.requires.optimum in
    record {
      inquiry = on_found ground c.loop.self
          (record {
            solver = c.advance.new.self;
            last = Some c.in-Found.plan;
            told = c.loop.self.told;
            past = c.loop.self.past;
          })
          inv.inquiry asks c.in_ok-plan.ensures.search refl c.in_ok-plan.field-0 c.in-Found.plan c.in-Found.is
          c.in_ok-plan.ensures.answer (inl optimum) refl;
      same = record { goal = asks.goal ∙ inv.same.goal; named = asks.named ∙ inv.same.named };
    }

pub returns-in-Refuted-clause-inquiry : goal.returns-in-Refuted-clause-inquiry
returns-in-Refuted-clause-inquiry g c =
    let ground =
    ground_at (stored_of g.R.Rule.value_of c.args.network.now.library) c.args.network.now.cells c.args.premises.now in
    on_kept ground c.loop.self
    (record { solver = c.advance.new.self; last = c.loop.self.last; told = c.loop.self.told; past = c.loop.self.past })
    c.loop.invariant.inquiry c.in_ok-plan.ensures.asks c.in_ok-plan.ensures.search refl
    (refuted_same ground c.loop.self.solver c.advance.new.self c.in_ok-plan.field-0 c.in-Refuted.by
    c.in-Refuted.is c.in_ok-plan.ensures.answer) refl

pub returns-in-Unsettled-clause-inquiry : goal.returns-in-Unsettled-clause-inquiry
returns-in-Unsettled-clause-inquiry g c =
    let ground =
    ground_at (stored_of g.R.Rule.value_of c.args.network.now.library) c.args.network.now.cells c.args.premises.now in
    on_kept ground c.loop.self
    (record { solver = c.advance.new.self; last = c.loop.self.last; told = c.loop.self.told; past = c.loop.self.past })
    c.loop.invariant.inquiry c.in_ok-plan.ensures.asks c.in_ok-plan.ensures.search refl
    (open_same ground c.loop.self.solver c.advance.new.self c.in_ok-plan.field-0
    c.in-Unsettled.is c.in_ok-plan.ensures.answer) refl

pub returns-in-Refuted-clause-end : goal.returns-in-Refuted-clause-end
returns-in-Refuted-clause-end g c =
    refuted_ends (ground_at (stored_of g.R.Rule.value_of c.args.network.now.library) c.args.network.now.cells
    c.args.premises.now) c.loop.self.solver c.advance.new.self c.in_ok-plan.field-0 c.in-Refuted.by c.in-Refuted.is
    c.in_ok-plan.ensures.answer
