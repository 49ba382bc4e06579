-- What is promised of the methods of a session that carry out a command.
use Rattle.std.specs.Prelude.{◌≡◌, ◌+◌, ℕ, List, length, Option, Some, Result, Ok, Err, ⊤}
use Rattle.std.specs.List.Sorted.{IsStrictlyIncreasing}
use Rattle.prop_lattice.specs.declared.info.Info.{Info}
use Rattle.prop_refusals.specs.declared.refusal.Refusal.{Refusal}
use Rattle.prop_numbers.specs.Sets.{set_of}
use Rattle.prop_procedures.specs.declared.shape.Param.{Param}
use Rattle.prop_scheduler.specs.Turns.{IsSettled}
use Rattle.prop_amb.specs.declared.outcome.Outcome.{Outcome}
use Rattle.prop_language.specs.Commands.{Command}
use Rattle.prop_engine.specs.Answers.{Answer, Text, Says, answer_done}
use Rattle.prop_texts.specs.Texts.{equation, because}
use Rattle.prop_workbench.specs.declared.session.Session.{Session}
use Rattle.prop_workbench.specs.Machine.{State, worldview_at}
use Rattle.prop_workbench.specs.inner.Machine.{text_at}
use Rattle.prop_workbench.specs.Questions.{Picks, HasTried, outcome_of}
use Rattle.prop_workbench.specs.inner.Questions.{RestsOn, MaySay}
use Rattle.prop_workbench.specs.Reasons.{IsLeanAnswer}
use Rattle.prop_workbench.specs.Sessions.{state_of, shown_of, work_of, library_of}
use Rattle.prop_workbench.specs.inner.Sessions.{Keeps, Stays}
use Rattle.prop_workbench.specs.inner.Steps.{Obeys}
use Rattle.prop_workbench.specs.Waking.{IsTold, IsChosen, IsAdded, Wakes}
use Rattle.prop_workbench.specs.inner.Steps.{IsObeyed, IsFollowed}

-- the method changed the session as the machine may for the command, or refused the command; it
-- took no step
abbrev pub IsDone : {R O : Type 0} {X : Type 0} {F : X → Type 0} {g : _}
    → (R → Param → List Info → Info) → Session R O X F g → Command → Result ⊤ Refusal
    → Session R O X F g → Type 0
IsDone value old command result new =
    Obeys (library_of value old) (state_of old) command (answer_done result) (state_of new) 0

-- the method left the work as a line with the command does: where it was refused, as it was
abbrev pub HasLeft : {R O : Type 0} {X : Type 0} {F : X → Type 0} {g : _} → Session R O X F g
    → Command → Result ⊤ Refusal → Session R O X F g → Type 0
HasLeft old command result new =
    Wakes (state_of old) (state_of new) (work_of old) (work_of new) (Ok (Some command))
    (answer_done result)

-- the first holds where the command was done, and the second where it was refused
abbrev pub IfDone : Result ⊤ Refusal → Type 0 → Type 0 → Type 0
IfDone (Ok done) does refuses = does
IfDone (Err refusal) does refuses = refuses

-- a statement was made, or the command was refused and the work stays
abbrev pub HasTold : {R O : Type 0} {X : Type 0} {F : X → Type 0} {g : _} → Session R O X F g
    → Result ⊤ Refusal → Session R O X F g → Type 0
HasTold old result new =
    IfDone result (IsTold (state_of old) (state_of new) (work_of old) (work_of new))
    (work_of new ≡ work_of old)

-- a choice was made, or the command was refused and the work stays
abbrev pub HasChosen : {R O : Type 0} {X : Type 0} {F : X → Type 0} {g : _} → Session R O X F g
    → Result ⊤ Refusal → Session R O X F g → Type 0
HasChosen old result new =
    IfDone result (IsChosen (state_of old) (state_of new) (work_of old) (work_of new))
    (work_of new ≡ work_of old)

-- cells and instances were added, or the command was refused and the work stays
abbrev pub HasAdded : {R O : Type 0} {X : Type 0} {F : X → Type 0} {g : _} → Session R O X F g
    → Result ⊤ Refusal → Session R O X F g → Type 0
HasAdded old result new =
    IfDone result (IsAdded (work_of old) (work_of new)) (work_of new ≡ work_of old)

-- The command was given this answer after so many steps. The machine may give it, and it rests on
-- what the run did. The session stays in order, and what its nogoods covered they still cover.
pub record IsAnswered {R O : Type 0} {X : Type 0} {F : X → Type 0} {g : _} (picks : Picks O)
    (value : R → Param → List Info → Info) (old : Session R O X F g) (command : Command)
    (answer : Answer) (steps : ℕ) (new : Session R O X F g) : Type 0 where
  pub keeps : Keeps value old new
  pub step : IsObeyed (library_of value old) command answer steps (shown_of old) (shown_of new)
  pub rests : RestsOn picks (library_of value old) (state_of old) (state_of new) (work_of old)
      (work_of new) (Ok (Some command)) answer steps

-- The same of a line that was read so. Here the nogoods may cover less: some may go with a premise
-- that is forgotten.
pub record IsCarriedOut {R O : Type 0} {X : Type 0} {F : X → Type 0} {g : _} (picks : Picks O)
    (value : R → Param → List Info → Info) (old : Session R O X F g)
    (read : Result (Option Command) Refusal) (answer : Answer) (steps : ℕ) (new : Session R O X F g)
    : Type 0 where
  pub keeps : Stays value old new
  pub step : IsFollowed (library_of value old) read answer steps (shown_of old) (shown_of new)
  pub rests : RestsOn picks (library_of value old) (state_of old) (state_of new) (work_of old)
      (work_of new) read answer steps

-- ---- where the network was run

-- the network has settled with each choice on the side on which it stands, and all these sides are
-- believed
pub record IsAtRest {R O : Type 0} {X : Type 0} {F : X → Type 0} {g : _}
    (value : R → Param → List Info → Info) (s : Session R O X F g) : Type 0 where
  pub full : s.search.level ≡ length s.search.list
  pub settled : IsSettled (library_of value s) (set_of s.search.worldview) s.live.network.cells

-- the answer may be given to the command after a run of so many steps that ended so and left this
-- session
abbrev pub MayAnswer : {R O : Type 0} {X : Type 0} {F : X → Type 0} {g : _}
    → (R → Param → List Info → Info) → Session R O X F g → Command → Outcome → ℕ → Answer → Type 0
MayAnswer value s command end steps answer =
    MaySay (library_of value s) (state_of s) command (outcome_of s.search.list end) steps answer

-- an answer to `why` uses no entry that isn't needed
abbrev pub IsLeanIn : {R O : Type 0} {X : Type 0} {F : X → Type 0} {g : _} → Session R O X F g
    → Command → Answer → Type 0
IsLeanIn s command answer =
    IsLeanAnswer (worldview_at (state_of s) s.search.list) s.live.network.cells (state_of s)
    (Ok (Some command)) answer

-- the premises are in order of number, and the answer is the text with the cell's information, the
-- mark and these premises, or that memory was refused
abbrev pub SaysBecause : State → ℕ → List ℕ → List ℕ → Info → List ℕ → Answer → Type 0
SaysBecause s cell name mark v premises answer = IsStrictlyIncreasing premises
    × Says answer (equation name (text_at s cell v) (because s.premises mark premises))

-- Where the answer is a text, all steps are those of the run (`steps`) and those of the tries that
-- led from the old session to the new.
abbrev pub CountsTries : {R O : Type 0} {X : Type 0} {F : X → Type 0} {g : _} → Picks O
    → (R → Param → List Info → Info) → Session R O X F g → ℕ → Answer → ℕ → Session R O X F g
    → Type 0
CountsTries picks value old steps answer all new =
    (text : List ℕ) → answer ≡ Text text
    → (tries : ℕ) × (all ≡ steps + tries)
    × HasTried picks (library_of value old) (state_of old) (work_of old) (work_of new) tries
