use Rattle.std.proofs.Common.{◌≡◌, ◌∙◌, ◌++◌, List, ℕ, true, ap, inl, inr, refl, sym}
use Rattle.std.specs.Prelude.{codes, is_some}
use Rattle.std.specs.Option.{option_map}
use Rattle.std.specs.String.{string_bytes}
use Rattle.prop_engine.specs.Answers.{Text, answer_of}
use Rattle.prop_telling.specs.inner.Telling.{told_of}
use Rattle.prop_telling.proofs.TellingLemmas.{said_by}
use Rattle.prop_seeking.specs.inner.Seekers.{inquiry_of}
use Rattle.prop_seeking.proofs.SoughtLemmas.{text_kept, memory_refused}
use Rattle.prop_seeking.proofs.seeker.Seeker.stride.Goals as goal

pub returns-then-is_refused-clause-strides : goal.returns-then-is_refused-clause-strides
returns-then-is_refused-clause-strides g c =
    let s = c.args.self.now in
    let answer = answer_of c.saying-told.result in
    let there = ap (λ i. is_some (option_map inquiry_of i)) c.requires.under_way.1 in
    let P : List ℕ → Type 0 = λ text.
    (option_map inquiry_of c.strode.new.self.inquiry ≡ option_map inquiry_of s.inquiry)
    × (rest : List ℕ) × (text ≡ codes "step " ++ rest) in
    elim (said_by string_bytes c.strode.result answer P c.saying-told.ensures c.strode.ensures.strode) [
      | inl m ↦ (
        there,
        ap told_of (c.forget.ensures.same ∙ c.strode.ensures.same),
        inl (ap (option_map inquiry_of) c.forget.ensures.none, m),
      )
      | inr x ↦ absurd (text_kept answer x.0 x.2 (sym c.is_refused.ensures ∙ c.if-is_refused.true))
    ]

pub returns-clause-strides : goal.returns-clause-strides
returns-clause-strides g c =
    let s = c.args.self.now in
    let answer = answer_of c.saying-told.result in
    let there = ap (λ i. is_some (option_map inquiry_of i)) c.requires.under_way.1 in
    let P : List ℕ → Type 0 = λ text.
    (option_map inquiry_of c.strode.new.self.inquiry ≡ option_map inquiry_of s.inquiry)
    × (rest : List ℕ) × (text ≡ codes "step " ++ rest) in
    elim (said_by string_bytes c.strode.result answer P c.saying-told.ensures c.strode.ensures.strode) [
      | inl m ↦ absurd (memory_refused answer m (sym c.is_refused.ensures ∙ c.if-is_refused.false))
      | inr x ↦ (
        there,
        ap told_of c.strode.ensures.same,
        inr (x.1.0, x.1.1, x.2 ∙ ap Text x.1.2),
      )
    ]
