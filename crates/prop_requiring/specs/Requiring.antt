-- The requirer as a machine: a layer around a blamer, that takes constraints and definitions as one
-- writes them.
use Rattle.std.specs.Prelude.{◌≡◌, ◌⊎◌, ◌<◌, ◌≤◌, ℕ, List, Option, Some, None, Result, Ok, Err, ⊤}
use Rattle.std.specs.Prelude.{codes, cond, false, length}
use Rattle.std.specs.List.{range_with_len}
use Rattle.std.specs.Result.{is_ok}
use Rattle.prop_refusals.specs.declared.refusal.Limit.{Limit}
use Rattle.prop_refusals.specs.declared.refusal.Refusal.{Refusal}
use Rattle.prop_refusals.specs.declared.refusal.Refusal.TheVariants.{LimitReached, LineTooLong}
use Rattle.prop_refusals.specs.declared.refusal.Refusal.TheVariants.{Memory, WrongForm}
use Rattle.prop_lattice.specs.declared.info.Info.TheVariants as infos
use Rattle.prop_lattice.specs.declared.span.Span.{Span}
use Rattle.prop_procedures.specs.Stored.{Stored}
use Rattle.prop_procedures.specs.declared.shape.Kinded.{Kinded}
use Rattle.prop_compound.specs.Kinds.{kind_named}
use Rattle.prop_vocabulary.specs.Values.{halves, span_value}
use Rattle.prop_language.specs.Commands.{Bare, Command, KindWord}
use Rattle.prop_language.specs.Reading.{IsReading}
use Rattle.prop_engine.specs.Answers.{Answer, Done, Refused, answer_done}
use Rattle.prop_engine.specs.Transcripts.{Machine}
use Rattle.prop_terms.specs.Terms.{Term, Name, Two}
use Rattle.prop_terms.specs.Writing.{IsWritten}
use Rattle.prop_terms.specs.declared.forming.Sort.TheVariants.{Any, Truth}
use Rattle.prop_terms.specs.declared.operators.Infix.TheVariants.{Equal}
use Rattle.prop_notes.specs.Notes.{is_done}
use Rattle.prop_workbench.specs.Machine.{State}
use Rattle.prop_workbench.specs.Questions.{Picks}
use Rattle.prop_workbench.specs.declared.posting.Posting.{Posting}
use Rattle.prop_demands.specs.Demanding.{Demands, demanded}
use Rattle.prop_demands.specs.Foreseeing.{IsKnownIn}
use Rattle.prop_demands.specs.Refusing.{IsRefused}
use Rattle.prop_telling.specs.Posting.{TellsPosting}
use Rattle.prop_telling.specs.Telling.{Own}
use Rattle.prop_telling.specs.inner.Posting.{is_without_trace}
use Rattle.prop_seeking.specs.Seeking.{Sought}
use Rattle.prop_blaming.specs.Blaming.{blaming}
use Rattle.prop_requiring.specs.Asking.{HasNoEquals, IsAsked, IsDefined, IsMisread, cell_line}
use Rattle.prop_requiring.specs.Asking.{is_definition, is_requirement}

-- A term is posted between all the cells that are there, under the premise with a name or under
-- none, and is demanded where that was done. Then no question can be gone on with, unless the
-- posting left no trace.
pub record Puts {O : Type 0} (library : List Stored) (old : Sought O) (t : Term)
    (premise : Option (List ℕ)) (result : Result ⊤ Refusal) (new : Sought O) : Type 0 where
  pub posting : Posting
  pub tells :
      let cells = range_with_len 0 (length old.told.standing.shown.state.kinds) in
      TellsPosting library old.told cells posting premise result new.told
  pub ends : new.inquiry ≡ cond (is_without_trace result) old.inquiry None
  pub demands :
      let s = old.told.standing.shown.state in
      Demands library s new.told.standing.shown.state (demanded s t premise result)

-- ---- what is required

-- the line requires what this term says, under the premise with a name, or under none
pub record Says (line : List ℕ) (t : Term) (premise : Option (List ℕ)) : Type 0 where
  pub text : List ℕ
  pub asked : IsAsked line text premise
  pub writes : IsWritten Truth text t

-- the line is refused before anything is made: for its parts, or for its text
abbrev pub Refuses : List ℕ → Refusal → Type 0
Refuses line e = IsMisread line e
    ⊎ ((text : List ℕ) × (premise : Option (List ℕ)) × IsAsked line text premise
    × IsRefused Truth text e)

-- what the line says is posted
pub record Posts {O : Type 0} (library : List Stored) (old : Sought O) (line : List ℕ)
    (answer : Answer) (new : Sought O) : Type 0 where
  pub term : Term
  pub premise : Option (List ℕ)
  pub says : Says line term premise
  pub result : Result ⊤ Refusal
  pub answer_is : answer ≡ answer_done result
  pub puts : Puts library old term premise result new

-- the line is refused for a reason and all stays, or what it says is posted
abbrev pub Requires : {O : Type 0} → List Stored → Sought O → List ℕ → Answer → Sought O → Type 0
Requires library old line answer new =
    ((e : Refusal) × Refuses line e × (answer ≡ Refused e) × (new ≡ old))
    ⊎ Posts library old line answer new

-- ---- what is defined

-- By what stands before the equals sign, a line declares a cell with a name, of the kind of the
-- value that the text's term has; if that is a number, it lies in the span.
pub record Means (library : List Stored) (s : State) (before text declaring name : List ℕ)
    (t : Term) (span : Span) : Type 0 where
  pub writes : IsWritten Any text t
  pub kind : List ℕ
  pub word : KindWord
  pub declares : declaring ≡ cell_line before kind
  pub reads : IsReading declaring (Ok (Some (Command.Cell name word)))
  pub kinded : Kinded
  pub of_kind : kind_named s.words word ≡ Some kinded
  pub known : IsKnownIn library s t kinded span

-- Why a line is refused before anything is made: it is too long, or has no equals sign. Or it is
-- refused for the text, as what stands before the equals sign would be for a cell of numbers, or
-- since there would be too much of something.
abbrev pub IsUndefined : List ℕ → Refusal → Type 0
IsUndefined line e = ((e ≡ LineTooLong) × (4_096 < length line))
    ⊎ ((e ≡ WrongForm) × (length line ≤ 4_096) × HasNoEquals line)
    ⊎ ((before text : List ℕ) × IsDefined line before text × (IsRefused Any text e
    ⊎ IsReading (cell_line before (codes "span")) (Err e)
    ⊎ ((limit : Limit) × (e ≡ LimitReached limit))))

-- The cell is declared, as the language does it, and a line that fixes it to the span may be given.
-- Then it is posted that it is what the term is worth, or memory was refused, and no more is said.
abbrev pub Declares : {O : Type 0} → Picks O → List Stored → Sought O → List ℕ → List ℕ → Term
    → Span → Answer → Sought O → Type 0
Declares {O = O} picks library old declaring name t span answer new =
    ((is_done answer ≡ false) × blaming picks library old declaring answer new)
    ⊎ ((declared fixed : Sought O) × blaming picks library old declaring Done declared
    × ((fixed ≡ declared) ⊎ ((fixing word : List ℕ) × (other : Answer)
    × (span_value (halves word) ≡ Ok (infos.Span span))
    × IsReading fixing (Ok (Some (Command.Fix name (Bare word))))
    × blaming picks library declared fixing other fixed))
    × (((answer ≡ Refused Memory) × (new ≡ fixed))
    ⊎ ((result : Result ⊤ Refusal) × (answer ≡ cond (is_ok result) Done (Refused Memory))
    × Puts library fixed (Two Equal (Name name) t) None result new)))

-- the line is refused for a reason and all stays, or its cell is declared and what it says posted
abbrev pub Defines : {O : Type 0} → Picks O → List Stored → Sought O → List ℕ → Answer → Sought O
    → Type 0
Defines picks library old line answer new =
    ((e : Refusal) × IsUndefined line e × (answer ≡ Refused e) × (new ≡ old))
    ⊎ ((before text declaring name : List ℕ) × (t : Term) × (span : Span)
    × IsDefined line before text
    × Means library old.told.standing.shown.state before text declaring name t span
    × Declares picks library old declaring name t span answer new)

-- ---- lines

-- If a line requires something or defines a cell, the requirer takes it. Any other line is for the
-- blamer.
abbrev pub requiring : {O : Type 0} → Picks O → List Stored → Machine (Sought O)
requiring picks library old line answer new = Own (is_requirement line)
    (Requires library old line answer new) (Own (is_definition line)
    (Defines picks library old line answer new) (blaming picks library old line answer new))
