-- What a layer tells of a run, as a machine.
use Rattle.std.specs.Prelude.{◌≡◌, ◌⊎◌, ℕ, List, ◌++◌, codes, Some, slice_get}
use Rattle.std.specs.Prelude.{Bool, true, false, length}
use Rattle.prop_numbers.specs.Sets.{set_of}
use Rattle.prop_refusals.specs.declared.refusal.Refusal.TheVariants.{Memory}
use Rattle.prop_procedures.specs.Stored.{Stored}
use Rattle.prop_contents.specs.Contents.{beliefs, IsLeanAt}
use Rattle.prop_cells.specs.Instances.{Instance}
use Rattle.prop_amb.specs.Going.{Work}
use Rattle.prop_amb.specs.Stepping.{Steps}
use Rattle.prop_amb.specs.declared.stepping.Step.{Step}
use Rattle.prop_amb.specs.declared.stepping.Step.TheVariants.{Called, Moved, Settled, Contradiction}
use Rattle.prop_engine.specs.Answers.{Answer, Text, Refused}
use Rattle.prop_engine.specs.Transcripts.{Machine}
use Rattle.prop_texts.specs.Texts.{contradiction_text, support_text}
use Rattle.prop_workbench.specs.Machine.{State, problem_in}
use Rattle.prop_workbench.specs.Steps.{Covers}
use Rattle.prop_workbench.specs.Questions.{Picks}
use Rattle.prop_workbench.specs.Engine.{Standing, WorkFits, Works, new_standing}
use Rattle.prop_language.specs.Reading.{AsRead}
use Rattle.prop_telling.specs.Asking.{is_step, is_how, is_list, may_declare}
use Rattle.prop_notes.specs.Notes.{Notes, no_notes, note_read, noted}
use Rattle.prop_telling.specs.Listing.{SaysList}
use Rattle.prop_telling.specs.How.{TellsHow}
use Rattle.prop_notes.specs.Texts.{call_text, sides_text, moved_text}
use Rattle.prop_telling.specs.Texts.{says_text, two_lines, three_lines}

-- The text says what is believed of the cell, with the premises of believed entries that say so,
-- none of which can be left out.
pub record SaysValue {O : Type 0} (s : State) (w : Work O) (cell : ℕ) (text : List ℕ) : Type 0 where
  pub premises : List ℕ
  pub lean : IsLeanAt (set_of w.search.worldview) w.cells.contents cell premises
  pub text_is : text ≡ says_text s cell
      (beliefs (set_of w.search.worldview) w.cells.contents cell) premises

-- The text names the sides that are believed, the instance that was called, with its cells, and
-- says what is believed of its output.
pub record SaysCall {O : Type 0} (library : List Stored) (s : State) (w : Work O) (i : ℕ)
    (text : List ℕ) : Type 0 where
  pub instance : Instance
  pub at : slice_get w.cells.instances i ≡ Some instance
  pub value : List ℕ
  pub says : SaysValue s w instance.output value
  pub text_is : text ≡ three_lines (sides_text s.premises (set_of w.search.worldview))
      (call_text s.names library i instance) value

-- what is said of a step after which it stands so: the sides that were believed before it, and the
-- call, the move with the nogood that asked for it, or the end
abbrev pub SaysStep : {O : Type 0} → List Stored → State → Work O → Step → List ℕ → Type 0
SaysStep library s w (Called i) text = SaysCall library s w i text
SaysStep library s w (Moved m) text =
    text ≡ three_lines (sides_text s.premises (set_of m.before))
    (codes "moved:" ++ moved_text s.premises m.side)
    (codes "nogood:" ++ support_text s.premises m.nogood)
SaysStep library s w Settled text =
    text ≡ two_lines (sides_text s.premises (set_of w.search.worldview)) (codes "settled")
SaysStep library s w (Contradiction n) text =
    text ≡ two_lines (sides_text s.premises (set_of w.search.worldview))
    (contradiction_text s.premises n)

-- A step is taken and told, or memory was refused. The state stays, and what was learned still
-- covers what it covered.
pub record TellsStep {O : Type 0} (picks : Picks O) (library : List Stored) (old : Standing O)
    (answer : Answer) (new : Standing O) : Type 0 where
  pub state : new.shown.state ≡ old.shown.state
  pub covers : (named : List (List ℕ)) → Covers old.shown named → Covers new.shown named
  pub fits : WorkFits library old → WorkFits library new
  pub told : (answer ≡ Refused Memory)
      ⊎ ((step : Step) × Steps picks library (problem_in library old.shown.state) old.work step
      new.work × (text : List ℕ) × SaysStep library old.shown.state new.work step text
      × (answer ≡ Text text))

-- what is the layer's own, or what the session does
abbrev pub Own : Bool → Type 0 → Type 0 → Type 0
Own true own other = own
Own false own other = other

-- where a teller stands: where its session does, and what lines declared
pub record Told (O : Type 0) : Type 0 where
  pub standing : Standing O
  pub notes : Notes

-- where a teller of a new session stands
abbrev pub new_told : {O : Type 0} → ℕ → O → Told O
new_told limit order = record { standing = new_standing limit order; notes = no_notes }

-- what a line declares is noted, where it is carried out
abbrev pub IsNoted : {O : Type 0} → Told O → List ℕ → Answer → Notes → Type 0
IsNoted old line answer new =
    let s = old.standing.shown.state in
    AsRead line (λ read. new ≡ noted old.notes
    (note_read old.notes (length s.kinds) (length s.instances) read) answer)

-- the line does what the session does, and what it declares is noted
pub record DoesAsSession {O : Type 0} (picks : Picks O) (library : List Stored) (old : Told O)
    (line : List ℕ) (answer : Answer) (new : Told O) : Type 0 where
  pub works : Works picks library old.standing line answer new.standing
  pub noted : Own (may_declare line) (IsNoted old line answer new.notes) (new.notes ≡ old.notes)

-- a line is the layer's own, or does what the session does
abbrev pub telling : {O : Type 0} → Picks O → List Stored → Machine (Told O)
telling picks library old line answer new =
    Own (is_step line) ((new.notes ≡ old.notes)
    × TellsStep picks library old.standing answer new.standing)
    (Own (is_how line) ((new.notes ≡ old.notes)
    × TellsHow library old.standing line answer new.standing)
    (Own (is_list line) ((new ≡ old) × SaysList library old.notes old.standing answer)
    (DoesAsSession picks library old line answer new)))
