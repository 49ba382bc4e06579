-- The workbench has what the engine asks of a machine: it answers a line by its first 4097 bytes,
-- and some answer to each line leaves the state.
use Rattle.std.proofs.Common.{◌≡◌, ℕ, ◌≤◌, ◌<◌, List, length, take, refl, ◌∙◌, subst, inl, inr}
use Rattle.std.proofs.Common.{arith}
use Rattle.std.specs.Prelude.{Option, Some, None, Result, Ok, Err}
use Rattle.std.proofs.lemmas.List.{length-take, take_all}
use Rattle.std.proofs.lemmas.Bool.{cases_lt}
use Rattle.prop_refusals.specs.declared.refusal.Refusal.{Refusal}
use Rattle.prop_refusals.specs.declared.refusal.Refusal.TheVariants.{LineTooLong, Memory}
use Rattle.prop_procedures.specs.Stored.{Stored}
use Rattle.prop_language.specs.Commands.{Command}
use Rattle.prop_language.specs.Reading.{IsReading, AsRead}
use Rattle.prop_language.proofs.ReadingLaws.{have_one_reading}
use Rattle.prop_engine.specs.Lines.{kept_of}
use Rattle.prop_engine.specs.Answers.{Answer, Silent, Refused}
use Rattle.prop_workbench.specs.Machine.{State}
use Rattle.prop_workbench.specs.Steps.{Follows, Step}
use Rattle.prop_workbench.specs.Engine.{workbench, working}
use Rattle.prop_workbench.specs.Questions.{Picks}
use Rattle.prop_engine.specs.Machines.{AsksByPrefix, IsTotal}

-- the first `limit` bytes of a line are the whole line, or as many as the limit
prefix_of_line : (limit : ℕ) (line : List ℕ)
    → (length line ≤ limit → take limit line ≡ line)
    × (limit < length line → length (take limit line) ≡ limit)
prefix_of_line limit line = (λ h. take_all limit line h, λ h. length-take limit line ∙ omega arith)

-- a line that is too long can be read in one way only: that it is too long
too_long : (line : List ℕ) (read : Result (Option Command) Refusal) → 4096 < length line
    → IsReading line read → read ≡ Err LineTooLong
too_long line read h (inl (l, e)) = e
too_long line read h (inr (l, r)) = absurd (omega arith)

-- what is read in the kept part of a line may be read in the line
kept_is_read : (line : List ℕ) (read : Result (Option Command) Refusal)
    → IsReading (kept_of line) read → IsReading line read
unfolding kept_of
kept_is_read line read r = elim (cases_lt 4097 (length line)) [
  | inl h ↦ let e = (prefix_of_line 4097 line).1 h in inl
      (omega arith, too_long (take 4097 line) read (omega (arith, e)) r)
  | inr h ↦ subst (λ l. IsReading l read) ((prefix_of_line 4097 line).0 h) r
]

kept_steps : (library : List Stored) (old new : State) (line : List ℕ) (answer : Answer) (steps : ℕ)
    → Step library old (kept_of line) answer new steps → Step library old line answer new steps
kept_steps library old new line answer steps (read, is, follows) =
    (read, kept_is_read line read is, follows)

-- what holds of what is read in the kept part of a line holds of what is read in the line
kept_as_read : (line : List ℕ) (Holds : Result (Option Command) Refusal → Type 0)
    → AsRead (kept_of line) Holds → AsRead line Holds
kept_as_read line Holds (read, is, holds) = (read, kept_is_read line read is, holds)

pub working_asks_by_prefix : {O : Type 0} (picks : Picks O) (library : List Stored)
    → AsksByPrefix (working picks library)
working_asks_by_prefix picks library old line answer new s = record {
  steps = s.steps;
  step = λ named covers. let goes =
      s.step named covers in record {
        now = goes.now;
        covers = goes.covers;
        step = kept_steps library _ _ line answer s.steps goes.step;
      };
  fits = s.fits;
  lean = kept_as_read line _ s.lean;
  earned = kept_as_read line _ s.earned;
  wakes = kept_as_read line _ s.wakes;
}

-- some answer leaves each state: silence, or that memory was refused
follows_somehow : (library : List Stored) (read : Result (Option Command) Refusal)
    → (answer : Answer) × ((s : State) → Follows library s read answer s 0)
follows_somehow library (Ok None) =
    (Silent, λ s. record { answer_is = refl; new_is = refl; no_steps = refl })
follows_somehow library (Ok (Some command)) =
    (Refused Memory, λ s. inr record { answer_is = refl; same = refl })
follows_somehow library (Err refusal) =
    (Refused Memory, λ s. inr record { answer_is = refl; same = refl })

pub workbench_is_total : (library : List Stored) → IsTotal (workbench library)
workbench_is_total library old line =
    let read = have_one_reading line in
    let somehow = follows_somehow library read.0 in
    (somehow.0, (0, (read.0, read.1, somehow.1 old)))
