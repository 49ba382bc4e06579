use Rattle.std.proofs.Common.{◌∙◌, List, ℕ, inl, inr, sym, refl}
use Rattle.std.specs.Option.{option_map}
use Rattle.std.specs.String.{string_bytes}
use Rattle.prop_engine.specs.Answers.{answer_of}
use Rattle.prop_workbench.specs.Sessions.{library_of, state_of}
use Rattle.prop_telling.proofs.TellingLemmas.{said_by}
use Rattle.prop_seeking.specs.inner.Seekers.{Replied, asked_of, inquiry_of}
use Rattle.prop_seeking.proofs.SoughtLemmas.{text_kept, memory_refused}
use Rattle.prop_seeking.proofs.seeker.Seeker.reply.Goals as goal

pub returns-then-is_refused-clause-replies : goal.returns-then-is_refused-clause-replies
returns-then-is_refused-clause-replies g c =
    let s = c.args.self.now in
    let answer = answer_of c.saying-reply.result in
    let P : List ℕ → Type 0 = Replied (library_of g.R.Rule.value_of s.teller.session) (state_of s.teller.session)
    (option_map inquiry_of s.inquiry) (asked_of c.args.asked.now) (option_map inquiry_of c.answered.new.self.inquiry) in
    elim (said_by string_bytes c.answered.result answer P c.saying-reply.ensures c.answered.ensures.replied) [
      | inl m ↦ inl (m, c.forget.ensures.none)
      | inr x ↦ absurd (text_kept answer x.0 x.2 (sym c.is_refused.ensures ∙ c.if-is_refused.true))
    ]

pub returns-clause-replies : goal.returns-clause-replies
returns-clause-replies g c =
    let s = c.args.self.now in
    let answer = answer_of c.saying-reply.result in
    let P : List ℕ → Type 0 = Replied (library_of g.R.Rule.value_of s.teller.session) (state_of s.teller.session)
    (option_map inquiry_of s.inquiry) (asked_of c.args.asked.now) (option_map inquiry_of c.answered.new.self.inquiry) in
    elim (said_by string_bytes c.answered.result answer P c.saying-reply.ensures c.answered.ensures.replied) [
      | inl m ↦ absurd (memory_refused answer m (sym c.is_refused.ensures ∙ c.if-is_refused.false))
      | inr x ↦ inr x
    ]
