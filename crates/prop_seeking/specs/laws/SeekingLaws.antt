-- A seeker has what the engine asks of a machine: it answers a line by its first 4097 bytes, and
-- some answer to each line leaves all as it is.
use Rattle.std.proofs.Common.{◌≡◌, ◌∙◌, ◌⊎◌, ℕ, ◌≤◌, ◌<◌, ◌+◌, ◌-◌, List, [], ◌∷◌, ◌++◌}
use Rattle.std.proofs.Common.{Bool, true, false, refl, sym, ap, subst, inl, inr}
use Rattle.std.proofs.Common.{length, take, arith, length-append}
use Rattle.std.specs.Prelude.{Option, Some, None, Result, Ok, Err, codes, cond, ◌==◌, slice_index}
use Rattle.std.specs.Prelude.{not, ◌&&◌}
use Rattle.std.specs.Str.Lines.{strip_carriage_return}
use Rattle.std.proofs.lemmas.Bool.{cases_lt}
use Rattle.std.proofs.lemmas.List.{length-take, take_all}
use Rattle.prop_lattice.specs.declared.info.Info.{Info}
use Rattle.prop_refusals.specs.declared.refusal.Refusal.{Refusal}
use Rattle.prop_refusals.specs.declared.refusal.Refusal.TheVariants.{Memory, LineTooLong}
use Rattle.prop_procedures.specs.Stored.{Stored}
use Rattle.prop_language.specs.Commands.{Command}
use Rattle.prop_language.specs.Reading.{IsReading}
use Rattle.prop_language.proofs.ReadingLaws.{have_one_reading}
use Rattle.prop_engine.specs.Lines.{kept_of}
use Rattle.prop_engine.specs.Answers.{Answer, Silent, Refused}
use Rattle.prop_engine.specs.Machines.{AsksByPrefix, IsTotal}
use Rattle.prop_workbench.specs.Questions.{Picks}
use Rattle.prop_workbench.specs.Engine.{Standing, Works}
use Rattle.prop_telling.specs.Asking.{is_step, is_how, is_list, may_declare}
use Rattle.prop_telling.specs.How.{TellsHow}
use Rattle.prop_telling.specs.Listing.{SaysList}
use Rattle.prop_notes.specs.Notes.{Note, is_done, note_read, noted}
use Rattle.prop_telling.specs.Telling.{DoesAsSession, IsNoted, Own, TellsStep, Told, telling}
use Rattle.prop_telling.specs.laws.TellingLaws.{lacks_read, memory_works, telling_asks_by_prefix}
use Rattle.prop_seeking.specs.Asking.{Question, asked, as_value, begins, is_question}
use Rattle.prop_seeking.specs.Seeking.{Seeks, Sought, Strides, seeking}

-- ---- what is kept of a line

kept_is_question : (line : List ℕ) → is_question (kept_of line) ≡ is_question line
unfolding kept_of
kept_is_question [] = refl
kept_is_question (a ∷ []) = refl
kept_is_question (a ∷ b ∷ []) = refl
kept_is_question (a ∷ b ∷ c ∷ []) = refl
kept_is_question (a ∷ b ∷ c ∷ d ∷ []) = refl
kept_is_question (a ∷ b ∷ c ∷ d ∷ e ∷ []) = refl
kept_is_question (a ∷ b ∷ c ∷ d ∷ e ∷ f ∷ []) = refl
kept_is_question (a ∷ b ∷ c ∷ d ∷ e ∷ f ∷ g ∷ []) = refl
kept_is_question (a ∷ b ∷ c ∷ d ∷ e ∷ f ∷ g ∷ h ∷ []) = refl
kept_is_question (a ∷ b ∷ c ∷ d ∷ e ∷ f ∷ g ∷ h ∷ i ∷ line) = refl

kept_sets_limit : (line : List ℕ)
    → begins (codes "limit") (kept_of line) ≡ begins (codes "limit") line
unfolding kept_of
kept_sets_limit [] = refl
kept_sets_limit (a ∷ []) = refl
kept_sets_limit (a ∷ b ∷ []) = refl
kept_sets_limit (a ∷ b ∷ c ∷ []) = refl
kept_sets_limit (a ∷ b ∷ c ∷ d ∷ []) = refl
kept_sets_limit (a ∷ b ∷ c ∷ d ∷ e ∷ []) = refl
kept_sets_limit (a ∷ b ∷ c ∷ d ∷ e ∷ f ∷ line) = refl

kept_is_step : (line : List ℕ) → is_step (kept_of line) ≡ is_step line
unfolding kept_of
kept_is_step [] = refl
kept_is_step (a ∷ []) = refl
kept_is_step (a ∷ b ∷ []) = refl
kept_is_step (a ∷ b ∷ c ∷ []) = refl
kept_is_step (a ∷ b ∷ c ∷ d ∷ []) = refl
kept_is_step (a ∷ b ∷ c ∷ d ∷ e ∷ []) = refl
kept_is_step (a ∷ b ∷ c ∷ d ∷ e ∷ f ∷ line) = refl

stripped_by : (b : Bool) (line : List ℕ)
    → length line ≤ length (cond b (take (length line - 1) line) line) + 1
stripped_by true line = omega (arith, length-take (length line - 1) line)
stripped_by false line = omega arith

-- the command as which a line is read is longer than the line
value_longer : (line : List ℕ) → length line < length (as_value line)
value_longer line =
    let text = strip_carriage_return line in
    let kept : length line ≤ length text + 1 =
    stripped_by (slice_index line (length line - 1) == 13) line in
    omega (
      arith,
      kept,
      length-append (codes "fix at {") (text ++ codes "}"),
      length-append text (codes "}"),
    )

-- what is read in the kept part of a line may be read in the line
pub kept_reading : (line : List ℕ) (read : Result (Option Command) Refusal)
    → IsReading (as_value (kept_of line)) read → IsReading (as_value line) read
unfolding kept_of
kept_reading line read (inl (l, e)) =
    elim (cases_lt 4097 (length line)) [
      | inl long ↦ inl (omega (arith, long, value_longer line), e)
      | inr short ↦ subst (λ (bytes : List ℕ). IsReading (as_value bytes) read)
          (take_all 4097 line short) (inl (l, e))
    ]
kept_reading line read (inr (l, r)) =
    let short : length line ≤ 4097 =
    omega (arith, l, value_longer (take 4097 line), length-take 4097 line) in
    subst (λ (bytes : List ℕ). IsReading (as_value bytes) read) (take_all 4097 line short)
    (inr (l, r))

-- ---- lines by what is kept of them

kept_seeks : {O : Type 0} (library : List Stored) (old : Sought O) (line : List ℕ) (answer : Answer)
    (inquiry : Option (Question × List (List Info)))
    → Seeks library old (kept_of line) answer inquiry → Seeks library old line answer inquiry
kept_seeks library old line answer inquiry (inl memory) = inl memory
kept_seeks library old line answer inquiry (inr (read, is, replies)) =
    inr (read, kept_reading line read is, replies)

-- what holds in one of two cases goes over to the same case of others
pub own_from : {A B C D : Type 0} (b c : Bool) → b ≡ c → (A → C) → (B → D) → Own b A B → Own c C D
own_from true true e f g x = f x
own_from false false e f g x = g x
own_from true false e f g x = cc
own_from false true e f g x = cc

pub seeking_asks_by_prefix : {O : Type 0} (picks : Picks O) (library : List Stored)
    → AsksByPrefix (seeking picks library)
seeking_asks_by_prefix picks library old line answer new seeks =
    own_from (is_question (kept_of line)) (is_question line) (kept_is_question line)
    (λ asks. (asks.0, kept_seeks library old line answer new.inquiry asks.1))
    (λ other. elim other [
      | inl strides ↦ inl (sym (kept_is_step line) ∙ strides.0, strides.1)
      | inr tells ↦ inr (
        telling_asks_by_prefix picks library old.told line answer new.told tells.0,
        tells.1 ∙ ap (λ (b : Bool). cond (is_done answer && not b) None old.inquiry)
            (kept_sets_limit line),
      )
    ]) seeks

-- ---- some answer

silent_works : {O : Type 0} (picks : Picks O) (library : List Stored) (old : Standing O)
    (line : List ℕ) → IsReading line (Ok None) → Works picks library old line Silent old
silent_works picks library old line is = record {
  steps = 0;
  step = λ named covers. record {
    now = named;
    covers = covers;
    step = (Ok None, is, record { answer_is = refl; new_is = refl; no_steps = refl });
  };
  fits = λ f. f;
  lean = (Ok None, is, tt);
  earned = (Ok None, is, tt);
  wakes = (Ok None, is, refl);
}

unnoted : {O : Type 0} (old : Told O) (line : List ℕ) (answer : Answer)
    (read : Result (Option Command) Refusal) → IsReading line read
    → ((note : Option Note) → noted old.notes note answer ≡ old.notes) → (b : Bool)
    → Own b (IsNoted old line answer old.notes) (old.notes ≡ old.notes)
unnoted old line answer read is same true = (
  read,
  is,
  sym (same (note_read old.notes (length old.standing.shown.state.kinds)
      (length old.standing.shown.state.instances) read)),
)
unnoted old line answer read is same false = refl

-- some answer leaves all as it is, and doesn't say that something was done
abbrev Rests : (Answer → Type 0) → Type 0
Rests Answered = (answer : Answer) × (is_done answer ≡ false) × Answered answer

some_none : (command : Command) (read : Result (Option Command) Refusal) → Ok (Some command) ≡ read
    → read ≡ Ok None → ⊥
some_none command read e f = let h : Some command ≡ None = cc in cc

err_none : (refusal : Refusal) (read : Result (Option Command) Refusal) → Err refusal ≡ read
    → read ≡ Ok None → ⊥
err_none refusal read e f = cc

rests : {O : Type 0} (picks : Picks O) (library : List Stored) (old : Told O) (line : List ℕ)
    (read : Result (Option Command) Refusal) → IsReading line read
    → Rests (λ answer. DoesAsSession picks library old line answer old)
rests picks library old line (Ok None) is = (
  Silent,
  refl,
  record {
    works = silent_works picks library old.standing line is;
    noted = unnoted old line Silent (Ok None) is (λ note. refl) (may_declare line);
  },
)
rests picks library old line (Ok (Some command)) is = (
  Refused Memory,
  refl,
  record {
    works = memory_works picks library old.standing line
        (lacks_read line (Ok (Some command)) is (some_none command _ refl));
    noted = unnoted old line (Refused Memory) (Ok (Some command)) is
        (λ note. refl) (may_declare line);
  },
)
rests picks library old line (Err refusal) is = (
  Refused Memory,
  refl,
  record {
    works = memory_works picks library old.standing line
        (lacks_read line (Err refusal) is (err_none refusal _ refl));
    noted = unnoted old line (Refused Memory) (Err refusal) is
        (λ note. refl) (may_declare line);
  },
)

tells_something : {O : Type 0} (picks : Picks O) (library : List Stored) (old : Told O)
    (line : List ℕ) (b c d : Bool) → Rests (λ answer.
    Own b ((old.notes ≡ old.notes) × TellsStep picks library old.standing answer old.standing)
    (Own c ((old.notes ≡ old.notes) × TellsHow library old.standing line answer old.standing)
    (Own d ((old ≡ old) × SaysList library old.notes old.standing answer)
    (DoesAsSession picks library old line answer old))))
tells_something picks library old line true c d = (
  Refused Memory,
  refl,
  (refl, record { state = refl; covers = λ named c. c; fits = λ fits. fits; told = inl refl }),
)
tells_something picks library old line false true d =
    (Refused Memory, refl, (refl, record { same = refl; told = inl refl }))
tells_something picks library old line false false true = (Refused Memory, refl, (refl, inr refl))
tells_something picks library old line false false false =
    let read = have_one_reading line in rests picks library old line read.0 read.1

something : {O : Type 0} (picks : Picks O) (library : List Stored) (old : Sought O)
    (line : List ℕ) (b : Bool) → (answer : Answer) × Own b
    ((old.told ≡ old.told) × Seeks library old line answer old.inquiry)
    (((is_step line ≡ true) × Strides old answer old)
    ⊎ (telling picks library old.told line answer old.told × (old.inquiry
    ≡ cond (is_done answer && not (begins (codes "limit") line)) None old.inquiry)))
something picks library old line true = (Refused Memory, (refl, inl (refl, inr refl)))
something picks library old line false =
    let told =
    tells_something picks library old.told line (is_step line) (is_how line) (is_list line) in
    (told.0, inr (told.2, rw told.1 refl))

pub seeking_is_total : {O : Type 0} (picks : Picks O) (library : List Stored)
    → IsTotal (seeking picks library)
seeking_is_total picks library old line =
    something picks library old line (is_question line)
