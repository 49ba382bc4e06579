use Rattle.std.proofs.Common.{◌∙◌, ◌<◌, All, ℕ, ap, inl, inr, length, refl, subst, sym, Ok, Err}
use Rattle.prop_vocabulary.specs.Cells.{CellNames}
use Rattle.prop_language.specs.Reading.{IsReading}
use Rattle.prop_language.specs.Said.{said}
use Rattle.prop_seeking.specs.Asking.{asked}
use Rattle.prop_seeking.specs.inner.Pieces.{named_so}
use Rattle.prop_seeking.specs.inner.Seekers.{Gives, asked_of}
use Rattle.prop_seeking.proofs.AskLemmas.{apt_so}
use Rattle.prop_seeking.proofs.seeker.Seeker.asked.Goals as goal

pub returns-in-Ok-read_line-clause-asked : goal.returns-in-Ok-read_line-clause-asked
returns-in-Ok-read_line-clause-asked g c =
    let read = said c.in-Ok-read_line.command in
    let names = c.names.ensures ∙ ap (λ (u : _). u.names) c.session-session.ensures in
    let cells = c.data-cells.ensures ∙ ap (λ (n : _). n.cells) (c.network.ensures
    ∙ ap (λ (l : _). l.network) (c.live.ensures ∙ ap (λ (u : _). u.live) c.session-session.ensures)) in
    inr (
      Ok read,
      subst (λ bytes. IsReading bytes (Ok read)) (c.deref.ensures.value ∙ c.in-Ok.ensures)
          c.in-Ok-read_line.ensures.read,
      subst (λ (P : Type 0). P) (λ i. Gives asked_of c.question_of.result
          (asked (named_so (names i) (cells i).kinds) (Ok read))) c.question_of.ensures.asked,
    )

pub returns-in-Ok-read_line-clause-apt : goal.returns-in-Ok-read_line-clause-apt
returns-in-Ok-read_line-clause-apt g c =
    let s = c.args.self.now.teller.session in
    let names = c.names.ensures ∙ ap (λ (u : _). u.names) c.session-session.ensures in
    let within = subst (λ (n : CellNames). All (λ (cell : ℕ). cell < length s.live.network.cells.kinds) n.cells)
    (sym names) c.requires.sound.in_order.named in
    apt_so s.live.network.cells.kinds c.question_of.result c.question_of.ensures.first
    (c.question_of.ensures.within (length s.live.network.cells.kinds) within)

pub returns-clause-asked : goal.returns-clause-asked
returns-clause-asked g c = elim c.in-Err.ensures.read [
  | inl m ↦ inl (ap Err m)
  | inr is ↦ inr (
    Err c.in-Err.refusal,
    subst (λ bytes. IsReading bytes (Err c.in-Err.refusal)) (c.deref.ensures.value ∙ c.in-Ok.ensures) is,
    inr refl,
  )
]
