use Rattle.std.proofs.Common.{◌∙◌, Some, inr, refl, sym}
use Rattle.prop_procedures.specs.Kept.{stored_of}
use Rattle.prop_seeking.specs.inner.Seekers.{ground_at}
use Rattle.prop_seeking.proofs.InquiryLemmas.{none_there, on_found, on_kept, open_same, refuted_ends}
use Rattle.prop_seeking.proofs.InquiryLemmas.{refuted_same}
use Rattle.prop_seeking.proofs.inquiry.Inquiry.find.Goals as goal

pub returns-in-Found-clause-inquiry : goal.returns-in-Found-clause-inquiry
returns-in-Found-clause-inquiry g c =
    let ground =
    ground_at (stored_of g.R.Rule.value_of c.args.network.now.library) c.args.network.now.cells c.args.premises.now in
    on_found ground c.args.self.now
    (record {
      solver = c.advance.new.self;
      last = Some c.in-Found.plan;
      told = c.args.self.now.told;
      past = c.args.self.now.past;
    })
    c.requires.inquiry c.in_ok-plan.ensures.asks c.in_ok-plan.ensures.search refl c.in_ok-plan.field-0 c.in-Found.plan
    c.in-Found.is c.in_ok-plan.ensures.answer (inr (none_there c.args.self.now.last
    (sym c.is_some.ensures ∙ c.if-is_some.false))) refl

pub returns-in-Refuted-clause-inquiry : goal.returns-in-Refuted-clause-inquiry
returns-in-Refuted-clause-inquiry g c =
    let ground =
    ground_at (stored_of g.R.Rule.value_of c.args.network.now.library) c.args.network.now.cells c.args.premises.now in
    on_kept ground c.args.self.now
    (record {
      solver = c.advance.new.self;
      last = c.args.self.now.last;
      told = c.args.self.now.told;
      past = c.args.self.now.past;
    })
    c.requires.inquiry c.in_ok-plan.ensures.asks c.in_ok-plan.ensures.search refl
    (refuted_same ground c.args.self.now.solver c.advance.new.self c.in_ok-plan.field-0 c.in-Refuted.by
    c.in-Refuted.is c.in_ok-plan.ensures.answer) refl

pub returns-in-Unsettled-clause-inquiry : goal.returns-in-Unsettled-clause-inquiry
returns-in-Unsettled-clause-inquiry g c =
    let ground =
    ground_at (stored_of g.R.Rule.value_of c.args.network.now.library) c.args.network.now.cells c.args.premises.now in
    on_kept ground c.args.self.now
    (record {
      solver = c.advance.new.self;
      last = c.args.self.now.last;
      told = c.args.self.now.told;
      past = c.args.self.now.past;
    })
    c.requires.inquiry c.in_ok-plan.ensures.asks c.in_ok-plan.ensures.search refl
    (open_same ground c.args.self.now.solver c.advance.new.self c.in_ok-plan.field-0
    c.in-Unsettled.is c.in_ok-plan.ensures.answer) refl

pub returns-in-Refuted-clause-end : goal.returns-in-Refuted-clause-end
returns-in-Refuted-clause-end g c =
    refuted_ends (ground_at (stored_of g.R.Rule.value_of c.args.network.now.library) c.args.network.now.cells
    c.args.premises.now) c.args.self.now.solver c.advance.new.self c.in_ok-plan.field-0 c.in-Refuted.by c.in-Refuted.is
    c.in_ok-plan.ensures.answer
