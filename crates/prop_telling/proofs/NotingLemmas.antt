-- What is noted of a line.
use Rattle.std.proofs.Common.{◌≡◌, ◌∙◌, ℕ, List, length, sym, ap, refl, subst, ◌⊎◌, inl, inr, Bool, true, false, cond}
use Rattle.std.specs.Prelude.{Option, Some, None, Result, Ok, Err, IsSome, OnErr}
use Rattle.prop_refusals.specs.declared.refusal.Refusal.{Refusal}
use Rattle.prop_procedures.specs.Stored.{Stored}
use Rattle.prop_engine.specs.Answers.{Answer}
use Rattle.prop_workbench.specs.Questions.{Picks}
use Rattle.prop_workbench.specs.Engine.{Works}
use Rattle.prop_language.specs.Commands.{Command}
use Rattle.prop_language.specs.Reading.{IsReading, AsRead}
use Rattle.prop_notes.specs.Notes.{Notes, Note, note_read, is_done, with_noted}
use Rattle.prop_telling.specs.Asking.{may_declare}
use Rattle.prop_telling.specs.Telling.{Told, Own, IsNoted, DoesAsSession}
use Rattle.prop_telling.specs.inner.Telling.{LacksMemory}

-- a line that declares something asks for something
pub declares_lacks : (n : Notes) (cells instances : ℕ) (line : List ℕ) (note : Note)
    → AsRead line (λ read. Some note ≡ note_read n cells instances read) → LacksMemory line
declares_lacks n cells instances line note (read, is, e) = by read is e
  where
    by : (r : Result (Option Command) Refusal) → IsReading line r → Some note ≡ note_read n cells instances r
        → LacksMemory line
    by (Ok (Some command)) is e =
        (Ok (Some command), is, λ library old. inr record { answer_is = refl; same = refl })
    by (Ok None) is e = cc
    by (Err refusal) is e = cc

-- and so does a command
pub some_lacks : (line : List ℕ) (x : Option Command) → IsReading line (Ok x) → IsSome x → LacksMemory line
some_lacks line (Some command) is s =
    (Ok (Some command), is, λ library old. inr record { answer_is = refl; same = refl })
some_lacks line None is s = absurd (nothing s)
  where
    nothing : IsSome {T = Command} None → ⊥
    nothing s = cc

-- the one of two that is left
pub other_one : {P Q : Type 0} → P ⊎ Q → (P → ⊥) → Q
other_one (inl p) h = absurd (h p)
other_one (inr q) h = q

pub on_err : {T E P Q : Type 0} (r : Result T E) → (P → Q) → OnErr r P → OnErr r Q
on_err (Ok t) f h = tt
on_err (Err e) f h = f h

-- what is not carried out is not noted
pub unnoted_by : {O : Type 0} (old : Told O) (line : List ℕ) (answer : Answer) (new : Notes)
    {Holds : Result (Option Command) Refusal → Type 0} → AsRead line Holds → is_done answer ≡ false
    → new ≡ old.notes → IsNoted old line answer new
unnoted_by old line answer new (read, is, holds) not_done same = (
  read,
  is,
  same ∙ ap (λ b. cond b (with_noted old.notes (note_read old.notes (length old.standing.shown.state.kinds)
      (length old.standing.shown.state.instances) read)) old.notes) (sym not_done),
)

pub does_noted : {O : Type 0} (picks : Picks O) (library : List Stored) (old : Told O) (line : List ℕ)
    (answer : Answer) (new : Told O) → Works picks library old.standing line answer new.standing
    → IsNoted old line answer new.notes → may_declare line ≡ true → DoesAsSession picks library old line answer new
does_noted picks library old line answer new works noted may = record {
  works = works;
  noted = subst (λ (b : Bool). Own b (IsNoted old line answer new.notes) (new.notes ≡ old.notes)) (sym may) noted;
}
