use Rattle.std.proofs.Common.{◌∙◌, Some, ap, subst}
use Rattle.std.specs.Option.{option_map}
use Rattle.std.specs.String.{string_bytes}
use Rattle.prop_workbench.specs.Sessions.{library_of, state_of}
use Rattle.prop_seeking.specs.Plans.{Says}
use Rattle.prop_seeking.specs.inner.Seekers.{asked_of, inquiry_of, question_of, rows_in}
use Rattle.prop_seeking.proofs.InquiryLemmas.{before_taken}
use Rattle.prop_seeking.proofs.seeker.Seeker.answered.Goals as goal

pub returns-in-Ok-clause-replied : goal.returns-in-Ok-clause-replied
returns-in-Ok-clause-replied g c =
    let teller = c.taken-before.ensures.same in
    let first = c.in_ok-inquiry.inquiry.solver in
    let last = c.text.new.inquiry.solver in
    let begun = c.in_ok-inquiry.ensures in
    let same = c.in-Ok.ensures.same in
    let before = rows_in first.goal first.excuses in
    let after = rows_in first.goal last.excuses in
    record {
      before = before;
      after = after;
      begins = before_taken c.taken-before.result c.args.self.now.inquiry (asked_of c.args.asked.now).0 before
          c.taken-before.ensures.taken begun.before;
      says = subst (λ (P : Type 0). P) (λ i. Says (library_of g.R.Rule.value_of (teller i).session)
          (state_of (teller i).session)
          (question_of (begun.goal i) (begun.named i)) c.args.asked.now.most before after
          (string_bytes c.in-Ok.text)) c.in-Ok.ensures.answers;
      goes_on = ap (λ s. option_map inquiry_of s.inquiry) c.keep.ensures ∙ (λ i. Some (
        question_of ((same.goal ∙ begun.goal) i) ((same.named ∙ begun.named) i),
        rows_in (same.goal i) last.excuses,
      ));
    }
