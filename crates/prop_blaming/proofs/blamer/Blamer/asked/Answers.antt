use Rattle.std.proofs.Common.{◌∙◌, List, ap, inl, inr, refl, subst, Ok, Err}
use Rattle.prop_language.specs.Reading.{IsReading}
use Rattle.prop_language.specs.Said.{said}
use Rattle.prop_premises.specs.Origins.{Origin}
use Rattle.prop_seeking.specs.inner.Seekers.{Gives}
use Rattle.prop_blaming.specs.Asking.{asked}
use Rattle.prop_blaming.specs.inner.Blamers.{asked_of}
use Rattle.prop_blaming.proofs.blamer.Blamer.asked.Goals as goal

pub returns-in-Ok-read_line : goal.returns-in-Ok-read_line
returns-in-Ok-read_line g c =
    let read = said c.in-Ok-read_line.command in
    inr (
      Ok read,
      subst (λ bytes. IsReading bytes (Ok read)) (c.deref.ensures.value ∙ c.in-Ok.ensures)
          c.in-Ok-read_line.ensures.read,
      subst (λ (premises : List Origin). Gives asked_of c.question_of.result (asked premises (Ok read)))
          c.origins.ensures c.question_of.ensures,
    )

pub returns : goal.returns
returns g c = elim c.in-Err.ensures.read [
  | inl m ↦ inl (ap Err m)
  | inr is ↦ inr (
    Err c.in-Err.refusal,
    subst (λ bytes. IsReading bytes (Err c.in-Err.refusal)) (c.deref.ensures.value ∙ c.in-Ok.ensures) is,
    inr refl,
  )
]
