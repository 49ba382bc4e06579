-- What two sessions agree on that are given the same lines, though they may call the waiting
-- instances in different orders.
use Rattle.std.specs.Prelude.{◌≡◌, ◌≢◌, ◌⊎◌, ℕ, List, [], codes, Some, All}
use Rattle.prop_lattice.specs.declared.info.Info.{Info}
use Rattle.prop_refusals.specs.declared.refusal.Refusal.TheVariants.{Memory}
use Rattle.prop_premises.specs.Origins.{IsNumbered}
use Rattle.prop_procedures.specs.Stored.{Stored}
use Rattle.prop_vocabulary.specs.Cells.{cell_named}
use Rattle.prop_language.specs.Commands.{Command}
use Rattle.prop_texts.specs.Texts.{equation, because}
use Rattle.prop_engine.specs.Answers.{Answer, Text, Refused}
use Rattle.prop_engine.specs.Transcripts.{Machine, Run}
use Rattle.prop_workbench.specs.Machine.{State}
use Rattle.prop_workbench.specs.inner.Machine.{text_at, naming}
use Rattle.prop_workbench.specs.Running.{Settled, Contradiction, MayEnd, Replies}
use Rattle.prop_workbench.specs.Steps.{Step}

-- none of the answers is that memory was refused
abbrev pub HaveMemory : List Answer → Type 0
HaveMemory answers = All (λ answer. answer ≢ Refused Memory) answers

-- the two states are equal in all but the contradictions that were named
abbrev pub AreAlike : State → State → Type 0
AreAlike s t = naming t [] ≡ naming s []

-- Two runs over the same lines, from one state, that were never refused memory end in states that
-- are equal in all but the contradictions that were named.
abbrev pub RunsMeet : Machine State → Type 0
RunsMeet machine =
    (old first second : State) (lines : List (List ℕ)) (answers others : List Answer)
    → Run machine old lines answers first → Run machine old lines others second
    → HaveMemory answers → HaveMemory others → AreAlike first second

-- Two answers that one line may be given in one state are equal or both texts, unless one of them
-- is that memory was refused. Only a command that runs the network, or lists nogoods, is answered
-- by a text.
abbrev pub AnswersMeet : List Stored → Type 0
AnswersMeet library =
    (old first second : State) (line : List ℕ) (answer other : Answer) (steps others : ℕ)
    → Step library old line answer first steps → Step library old line other second others
    → answer ≢ Refused Memory → other ≢ Refused Memory →
    (other ≡ answer) ⊎ ((text also : List ℕ) × (answer ≡ Text text) × (other ≡ Text also))

-- the text may be the reply to the command in this state, after a run that settled
abbrev pub IsSettledText : List Stored → State → Command → List ℕ → Type 0
IsSettledText library s command text = (list : List ℕ) × (steps : ℕ)
    × MayEnd library s (Settled list) × Replies library s command (Settled list) steps text

-- what a reply to `core` has between the value and `because`: nothing, or that the premises aren't
-- reduced
abbrev pub IsCoreMark : List ℕ → Type 0
IsCoreMark mark = (mark ≡ []) ⊎ (mark ≡ codes " not reduced")

-- The two texts give the same value for the cell with the name. Behind it each has its own mark and
-- its own premises.
pub record SayOneValue (s : State) (name mark also_mark text also : List ℕ) : Type 0 where
  pub cell : ℕ
  pub cell_is : cell_named s.names name ≡ Some cell
  pub v : Info
  pub premises : List ℕ
  pub others : List ℕ
  pub text_is : text ≡ equation name (text_at s cell v) (because s.premises mark premises)
  pub also_is : also ≡ equation name (text_at s cell v) (because s.premises also_mark others)

-- Two settled texts in reply to one command in one state are equal, but for two commands. Replies
-- to `why` may differ in the premises. Replies to `core` may differ in the premises and in whether
-- these are reduced. The value is the same in both.
abbrev pub SettledTextsMeet : List Stored → Type 0
SettledTextsMeet library =
    (s : State) (command : Command) (text also : List ℕ) → IsSettledText library s command text
    → IsSettledText library s command also → (also ≡ text)
    ⊎ ((name : List ℕ) × (command ≡ Command.Why name) × SayOneValue s name [] [] text also)
    ⊎ ((name mark also_mark : List ℕ) × (command ≡ Command.Core name) × IsCoreMark mark
    × IsCoreMark also_mark × SayOneValue s name mark also_mark text also)

-- where some run over a state settles, no run over that state ends in a contradiction
abbrev pub SettledIsFree : List Stored → Type 0
SettledIsFree library = (s : State) (list premises : List ℕ) → IsNumbered s.premises
    → MayEnd library s (Settled list) → MayEnd library s (Contradiction premises) → ⊥

-- a line leaves premises numbered that were numbered before it
abbrev pub StepsKeepNumbers : List Stored → Type 0
StepsKeepNumbers library = (old new : State) (line : List ℕ) (answer : Answer) (steps : ℕ)
    → IsNumbered old.premises → Step library old line answer new steps → IsNumbered new.premises
