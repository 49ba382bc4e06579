-- What a command that runs the network may be answered, by what the run did: its calls, its moves
-- from side to side, and what it believed at its end.
use Rattle.std.specs.Prelude.{◌≡◌, ◌≢◌, ℕ, ◌+◌, List, length, codes, Option, Some, Result, Ok, ⊤}
use Rattle.prop_refusals.specs.declared.refusal.Refusal.{Refusal}
use Rattle.prop_procedures.specs.Stored.{Stored}
use Rattle.prop_contents.specs.Contents.{beliefs}
use Rattle.prop_amb.specs.declared.outcome.Outcome as ends
use Rattle.prop_amb.specs.declared.outcome.Outcome.TheVariants.{Settled, Contradiction, Unsettled}
use Rattle.prop_numbers.specs.Sets.{set_of}
use Rattle.prop_amb.specs.Culprits.{IsBlamed}
use Rattle.prop_amb.specs.Settling.{IfContradiction}
use Rattle.prop_scheduler.specs.Agendas.{all_alerted, numbers_below}
use Rattle.prop_amb.specs.Going.{Work, MayGoOn, Goes}
use Rattle.prop_explain.specs.Trying.{Tries}
use Rattle.prop_language.specs.Commands as commands
use Rattle.prop_language.specs.Commands.{Command}
use Rattle.prop_engine.specs.Answers.{Answer, Text}
use Rattle.prop_texts.specs.Texts.{equation, because}
use Rattle.prop_vocabulary.specs.Cells.{cell_named}
use Rattle.prop_workbench.specs.Machine.{State, worldview_at}
use Rattle.prop_workbench.specs.inner.Machine.{text_at}
use Rattle.prop_workbench.specs.Running as running
use Rattle.prop_workbench.specs.Running.{Outcome, Replies}

-- how a run ended, as the machine tells it, where the choices stand on the sides of this list
abbrev pub outcome_of : List ℕ → ends.Outcome → Outcome
outcome_of list Settled = running.Settled list
outcome_of list Unsettled = running.Unsettled list
outcome_of list (Contradiction premises) = running.Contradiction premises

-- Which of the waiting instances an order picks. From the order as it is, and how many wait, it
-- tells the place of the one that is picked, and the order as it is then.
abbrev pub Picks : Type 0 → Type 1
Picks O = O → ℕ → ℕ → O → Type 0

-- The text gives what is believed of the cell with the name, and then the mark. That is what the
-- cell's entries in this work say, where one believes the user's believed premises and the sides on
-- which the choices stand.
abbrev pub SaysBelief : {O : Type 0} → State → Work O → List ℕ → List ℕ → List ℕ → Type 0
SaysBelief s work name mark text =
    (cell : ℕ) × (cell_named s.names name ≡ Some cell)
    × (text ≡ equation name (text_at s cell
    (beliefs (worldview_at s work.search.list) work.cells.contents cell)) mark)

-- What a reply that is unsettled says. To `ask`, `why` and `core` it gives what is believed of the
-- cell where the run stopped, and to the last two also premises. Of other commands nothing is
-- asked.
abbrev pub SaysUnsettled : {O : Type 0} → State → Work O → Command → List ℕ → Type 0
SaysUnsettled s work (commands.Command.Ask x) text = SaysBelief s work x (codes " unsettled") text
SaysUnsettled s work (commands.Command.Why x) text = (premises : List ℕ)
    × SaysBelief s work x (because s.premises (codes " unsettled") premises) text
SaysUnsettled s work (commands.Command.Core x) text = (premises : List ℕ)
    × SaysBelief s work x (because s.premises (codes " unsettled") premises) text
SaysUnsettled s work command text = ⊤

-- The text replies to the command as a run ended, which led from the old work to the new in exactly
-- so many steps. If it ended unsettled, one more step could be taken, and the text says what is
-- believed there. If it ended in a contradiction, each premise that is named is a culprit of one
-- noted nogood that is believed.
pub record IsEarned {O : Type 0} (picks : Picks O) (library : List Stored) (s : State)
    (old new : Work O) (command : Command) (text : List ℕ) (steps : ℕ) : Type 0 where
  pub end : ends.Outcome
  pub gone : Goes picks library old steps new
  pub left : end ≡ Unsettled → MayGoOn new
  pub believed : end ≡ Unsettled → SaysUnsettled s new command text
  pub blamed : IfContradiction end (λ ps. IsBlamed new.search (set_of ps))
  pub replies : Replies library s command (outcome_of new.search.list end) steps text

-- Sets of believed premises were tried, from the old work to the new, in exactly so many steps.
-- After that all instances wait: those that didn't yet stand behind the others, by number.
pub record HasTried {O : Type 0} (picks : Picks O) (library : List Stored) (s : State)
    (old new : Work O) (steps : ℕ) : Type 0 where
  pub search : new.search ≡ old.search
  pub line : List ℕ
  pub tries : Tries picks library (worldview_at s old.search.list) old.cells old.line old.order
      steps new.cells line new.order
  pub woken : new.line ≡ all_alerted line (numbers_below (length new.cells.instances))

-- The text replies to `core`. First a run led from the old work to a middle one in so many steps
-- (`calls`), and the text replies as it ended. Only if it settled, premises were tried from there
-- to the new work, in so many steps more (`tries`).
pub record IsEarnedCore {O : Type 0} (picks : Picks O) (library : List Stored) (s : State)
    (old new : Work O) (name text : List ℕ) (steps : ℕ) : Type 0 where
  pub end : ends.Outcome
  pub run : Work O
  pub calls : ℕ
  pub tries : ℕ
  pub gone : Goes picks library old calls run
  pub left : end ≡ Unsettled → MayGoOn run
  pub believed : end ≡ Unsettled → SaysUnsettled s run (commands.Command.Core name) text
  pub blamed : IfContradiction end (λ ps. IsBlamed run.search (set_of ps))
  pub tried : end ≡ Settled → HasTried picks library s run new tries
  pub untried : end ≢ Settled → (new ≡ run) × (tries ≡ 0)
  pub sum : steps ≡ calls + tries
  pub replies : Replies library s (commands.Command.Core name) (outcome_of run.search.list end)
      steps text

-- What is asked of the answer to a line, by what was read in it. A text in answer to a command that
-- runs the network is the reply after a run, and tries, of exactly so many steps. Of other answers
-- nothing is asked.
abbrev pub Earns : {O : Type 0} → Picks O → List Stored → State → Work O → Work O
    → Result (Option Command) Refusal → Answer → ℕ → Type 0
Earns picks library s old new (Ok (Some commands.Command.Settle)) (Text text) steps =
    IsEarned picks library s old new commands.Command.Settle text steps
Earns picks library s old new (Ok (Some (commands.Command.Ask x))) (Text text) steps =
    IsEarned picks library s old new (commands.Command.Ask x) text steps
Earns picks library s old new (Ok (Some (commands.Command.Why x))) (Text text) steps =
    IsEarned picks library s old new (commands.Command.Why x) text steps
Earns picks library s old new (Ok (Some (commands.Command.Core x))) (Text text) steps =
    IsEarnedCore picks library s old new x text steps
Earns picks library s old new (Ok (Some commands.Command.Worldview)) (Text text) steps =
    IsEarned picks library s old new commands.Command.Worldview text steps
Earns picks library s old new read answer steps = ⊤
