-- A teller has what the engine asks of a machine.
use Rattle.std.proofs.Common.{◌≡◌, ℕ, ◌≤◌, List, [], ◌∷◌, Bool, true, false, refl, sym, subst}
use Rattle.std.proofs.Common.{inl, inr, length, arith}
use Rattle.std.specs.Prelude.{Option, Some, None, Result, Ok, Err}
use Rattle.std.proofs.lemmas.List.{length-take, take_all}
use Rattle.prop_refusals.specs.declared.refusal.Refusal.{Refusal}
use Rattle.prop_refusals.specs.declared.refusal.Refusal.TheVariants.{Memory}
use Rattle.prop_procedures.specs.Stored.{Stored}
use Rattle.prop_language.specs.Commands.{Command}
use Rattle.prop_language.specs.Reading.{IsReading}
use Rattle.prop_language.proofs.ReadingLaws.{have_one_reading}
use Rattle.prop_engine.specs.Lines.{kept_of}
use Rattle.prop_engine.specs.Answers.{Answer, Silent, Refused}
use Rattle.prop_engine.specs.Machines.{AsksByPrefix, IsTotal}
use Rattle.prop_workbench.specs.Machine.{worldview_at}
use Rattle.prop_workbench.specs.inner.Machine.{naming}
use Rattle.prop_workbench.specs.Questions.{Picks}
use Rattle.prop_workbench.specs.Engine.{Standing, Works}
use Rattle.prop_workbench.specs.laws.MachineLaws.{working_asks_by_prefix}
use Rattle.prop_workbench.specs.laws.RefusalLaws.{lean_refused, earns_refused, wakes_refused}
use Rattle.prop_telling.specs.Asking.{is_step, is_how, as_why, is_list, may_declare}
use Rattle.prop_telling.specs.How.{TellsHow}
use Rattle.prop_notes.specs.Notes.{Notes, Note, note_read, noted}
use Rattle.prop_telling.specs.Telling.{Told, telling, Own, TellsStep, IsNoted, DoesAsSession}
use Rattle.prop_telling.specs.Listing.{SaysList}
use Rattle.prop_telling.specs.inner.Telling.{LacksMemory}

-- ---- what is kept of a line

-- a line as long as what is kept of any is none of the layer's own
kept_is_step : (line : List ℕ) → is_step (kept_of line) ≡ is_step line
unfolding kept_of
kept_is_step [] = refl
kept_is_step (a ∷ []) = refl
kept_is_step (a ∷ b ∷ []) = refl
kept_is_step (a ∷ b ∷ c ∷ []) = refl
kept_is_step (a ∷ b ∷ c ∷ d ∷ []) = refl
kept_is_step (a ∷ b ∷ c ∷ d ∷ e ∷ []) = refl
kept_is_step (a ∷ b ∷ c ∷ d ∷ e ∷ f ∷ line) = refl

kept_is_list : (line : List ℕ) → is_list (kept_of line) ≡ is_list line
unfolding kept_of
kept_is_list [] = refl
kept_is_list (a ∷ []) = refl
kept_is_list (a ∷ b ∷ []) = refl
kept_is_list (a ∷ b ∷ c ∷ []) = refl
kept_is_list (a ∷ b ∷ c ∷ d ∷ []) = refl
kept_is_list (a ∷ b ∷ c ∷ d ∷ e ∷ []) = refl
kept_is_list (a ∷ b ∷ c ∷ d ∷ e ∷ f ∷ line) = refl

kept_may : (line : List ℕ) → may_declare (kept_of line) ≡ may_declare line
unfolding kept_of
kept_may [] = refl
kept_may (a ∷ []) = refl
kept_may (a ∷ b ∷ line) = refl

kept_is_how : (line : List ℕ) → is_how (kept_of line) ≡ is_how line
unfolding kept_of
kept_is_how [] = refl
kept_is_how (a ∷ []) = refl
kept_is_how (a ∷ b ∷ []) = refl
kept_is_how (a ∷ b ∷ c ∷ []) = refl
kept_is_how (a ∷ b ∷ c ∷ d ∷ line) = refl

kept_as_why : (line : List ℕ) → as_why (kept_of line) ≡ kept_of (as_why line)
unfolding kept_of
kept_as_why [] = refl
kept_as_why (a ∷ []) = refl
kept_as_why (a ∷ b ∷ []) = refl
kept_as_why (a ∷ b ∷ c ∷ line) = refl

-- what is kept of a line asks what the line asks
kept_reading : (line : List ℕ) (read : Result (Option Command) Refusal)
    → IsReading (kept_of line) read → IsReading line read
unfolding kept_of
kept_reading line read (inl (l, e)) = inl (omega (arith, l, length-take 4097 line), e)
kept_reading line read (inr (l, r)) =
    let short : length line ≤ 4097 = omega (arith, l, length-take 4097 line) in
    subst (λ (bytes : List ℕ). IsReading bytes read) (take_all 4097 line short) (inr (l, r))

-- ---- lines by what is kept of them

noted_by_kept : {O : Type 0} (old : Told O) (line : List ℕ) (answer : Answer) (new : Notes)
    (b : Bool) → Own b (IsNoted old (kept_of line) answer new) (new ≡ old.notes)
    → Own b (IsNoted old line answer new) (new ≡ old.notes)
noted_by_kept old line answer new true (read, is, e) = (read, kept_reading line read is, e)
noted_by_kept old line answer new false e = e

does_by_kept : {O : Type 0} (picks : Picks O) (library : List Stored) (old : Told O)
    (line : List ℕ) (answer : Answer) (new : Told O)
    → DoesAsSession picks library old (kept_of line) answer new
    → DoesAsSession picks library old line answer new
does_by_kept picks library old line answer new does = record {
  works = working_asks_by_prefix picks library old.standing line answer new.standing does.works;
  noted = noted_by_kept old line answer new.notes (may_declare line)
      (subst (λ (b : Bool). Own b (IsNoted old (kept_of line) answer new.notes)
      (new.notes ≡ old.notes)) (kept_may line) does.noted);
}

kept_tells_how : {O : Type 0} (library : List Stored) (old : Standing O) (line : List ℕ)
    (answer : Answer) (new : Standing O) → TellsHow library old (kept_of line) answer new
    → TellsHow library old line answer new
kept_tells_how library old line answer new h = record {
  same = h.same;
  told = elim h.told [
    | inl memory ↦ inl memory
    | inr (read, is, answers) ↦ inr (
      read,
      kept_reading (as_why line) read
          (subst (λ (bytes : List ℕ). IsReading bytes read) (kept_as_why line) is),
      answers,
    )
  ];
}

-- the one or the other, each from what is another's own
own_from : {A B C D : Type 0} (b c : Bool) → b ≡ c → (A → C) → (B → D) → Own b A B → Own c C D
own_from true true e f g x = f x
own_from false false e f g x = g x
own_from true false e f g x = cc
own_from false true e f g x = cc

pub telling_asks_by_prefix : {O : Type 0} (picks : Picks O) (library : List Stored)
    → AsksByPrefix (telling picks library)
telling_asks_by_prefix picks library old line answer new tells =
    own_from (is_step (kept_of line)) (is_step line) (kept_is_step line) (λ step. step)
    (own_from (is_how (kept_of line)) (is_how line) (kept_is_how line)
    (λ how. (how.0, kept_tells_how library old.standing line answer new.standing how.1))
    (own_from (is_list (kept_of line)) (is_list line) (kept_is_list line) (λ list. list)
    (does_by_kept picks library old line answer new))) tells

-- ---- some answer

-- memory may be wanting for a line that asks for something
pub memory_works : {O : Type 0} (picks : Picks O) (library : List Stored) (old : Standing O)
    (line : List ℕ) → LacksMemory line → Works picks library old line (Refused Memory) old
memory_works picks library old line (read, is, follows) = record {
  steps = 0;
  step = λ named covers. record {
    now = named;
    covers = covers;
    step = (read, is, follows library (naming old.shown.state named));
  };
  fits = λ f. f;
  lean = (
    read,
    is,
    lean_refused (worldview_at old.shown.state old.work.search.list)
        old.work.cells old.shown.state read Memory,
  );
  earned = (
    read,
    is,
    earns_refused picks library old.shown.state old.work old.work read Memory 0,
  );
  wakes = (read, is, wakes_refused old.shown.state old.shown.state old.work read Memory);
}

silent_works : {O : Type 0} (picks : Picks O) (library : List Stored) (old : Standing O)
    (line : List ℕ) → IsReading line (Ok None) → Works picks library old line Silent old
silent_works picks library old line is = record {
  steps = 0;
  step = λ named covers. record {
    now = named;
    covers = covers;
    step = (Ok None, is, record { answer_is = refl; new_is = refl; no_steps = refl });
  };
  fits = λ f. f;
  lean = (Ok None, is, tt);
  earned = (Ok None, is, tt);
  wakes = (Ok None, is, refl);
}

pub lacks_read : (line : List ℕ) (read : Result (Option Command) Refusal) → IsReading line read
    → (read ≡ Ok None → ⊥) → LacksMemory line
lacks_read line (Ok (Some command)) is some =
    (Ok (Some command), is, λ library old. inr record { answer_is = refl; same = refl })
lacks_read line (Ok None) is some = absurd (some refl)
lacks_read line (Err refusal) is some =
    (Err refusal, is, λ library old. inr record { answer_is = refl; same = refl })

unnoted : {O : Type 0} (old : Told O) (line : List ℕ) (answer : Answer)
    (read : Result (Option Command) Refusal) → IsReading line read
    → ((note : Option Note) → noted old.notes note answer ≡ old.notes) → (b : Bool)
    → Own b (IsNoted old line answer old.notes) (old.notes ≡ old.notes)
unnoted old line answer read is same true = (
  read,
  is,
  sym (same (note_read old.notes (length old.standing.shown.state.kinds)
      (length old.standing.shown.state.instances) read)),
)
unnoted old line answer read is same false = refl

some_none : (command : Command) (read : Result (Option Command) Refusal) → Ok (Some command) ≡ read
    → read ≡ Ok None → ⊥
some_none command read e f = let h : Some command ≡ None = cc in cc

err_none : (refusal : Refusal) (read : Result (Option Command) Refusal) → Err refusal ≡ read
    → read ≡ Ok None → ⊥
err_none refusal read e f = cc

-- silence, or want of memory, leaves all as it was
rests : {O : Type 0} (picks : Picks O) (library : List Stored) (old : Told O) (line : List ℕ)
    (read : Result (Option Command) Refusal) → IsReading line read
    → (answer : Answer) × DoesAsSession picks library old line answer old
rests picks library old line (Ok None) is = (
  Silent,
  record {
    works = silent_works picks library old.standing line is;
    noted = unnoted old line Silent (Ok None) is (λ note. refl) (may_declare line);
  },
)
rests picks library old line (Ok (Some command)) is = (
  Refused Memory,
  record {
    works = memory_works picks library old.standing line
        (lacks_read line (Ok (Some command)) is (some_none command _ refl));
    noted = unnoted old line (Refused Memory) (Ok (Some command)) is
        (λ note. refl) (may_declare line);
  },
)
rests picks library old line (Err refusal) is = (
  Refused Memory,
  record {
    works = memory_works picks library old.standing line
        (lacks_read line (Err refusal) is (err_none refusal _ refl));
    noted = unnoted old line (Refused Memory) (Err refusal) is
        (λ note. refl) (may_declare line);
  },
)

somehow : {O : Type 0} (picks : Picks O) (library : List Stored) (old : Told O)
    (line : List ℕ) (b c d : Bool) → (answer : Answer)
    × Own b ((old.notes ≡ old.notes) × TellsStep picks library old.standing answer old.standing)
    (Own c ((old.notes ≡ old.notes) × TellsHow library old.standing line answer old.standing)
    (Own d ((old ≡ old) × SaysList library old.notes old.standing answer)
    (DoesAsSession picks library old line answer old)))
somehow picks library old line true c d = (
  Refused Memory,
  (refl, record { state = refl; covers = λ named c. c; fits = λ fits. fits; told = inl refl }),
)
somehow picks library old line false true d = (
  Refused Memory,
  (refl, record { same = refl; told = inl refl }),
)
somehow picks library old line false false true = (Refused Memory, (refl, inr refl))
somehow picks library old line false false false =
    let read = have_one_reading line in rests picks library old line read.0 read.1

pub telling_is_total : {O : Type 0} (picks : Picks O) (library : List Stored)
    → IsTotal (telling picks library)
telling_is_total picks library old line =
    somehow picks library old line (is_step line) (is_how line) (is_list line)
