use Rattle.std.proofs.Common.{◌≡◌, ◌∙◌, Some, ap, subst, sym}
use Rattle.std.specs.Prelude.{IfSome, Option}
use Rattle.std.specs.Option.{option_map}
use Rattle.prop_solve.specs.declared.question.Goal.TheVariants.{Differing}
use Rattle.prop_seeking.specs.declared.inquiry.Inquiry.{Inquiry}
use Rattle.prop_seeking.specs.inner.Seekers.{inquiry_of}
use Rattle.prop_seeking.proofs.ReplyLemmas.{asked_yet}
use Rattle.prop_seeking.proofs.seeker.Seeker.strode.Goals as goal

pub returns-in-Ok-clause-strode : goal.returns-in-Ok-clause-strode
returns-in-Ok-clause-strode g c =
    let first = c.in-Some.inquiry in
    let last = c.step.new.inquiry in
    let asked = c.requires.under_way in
    let taken : c.args.self.now.inquiry ≡ Some first = cc in
    let Quiet : Option Inquiry → Type 0 = λ o. IfSome o (λ i. i.solver.goal ≡ Differing → ⊥) in
    let quiet : first.solver.goal ≡ Differing → ⊥ = subst Quiet (sym asked.1 ∙ taken) asked.2.0 in
    let told = c.in-Ok.ensures.told in (
      ap (λ s. option_map inquiry_of s.inquiry) c.keep.ensures
          ∙ ap Some (asked_yet first last quiet c.in-Ok.ensures.same) ∙ ap (option_map inquiry_of) (sym taken),
      told.0,
      told.1,
    )
