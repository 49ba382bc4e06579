-- How a run may end that a question starts, what may be answered then, and what the answer rests
-- on.
use Rattle.std.specs.Prelude.{◌≡◌, ℕ, ◌+◌, ◌*◌, ◌≤◌, ◌<◌, List, length, Option, Some, Result, ⊤}
use Rattle.std.specs.Prelude.{◌⊎◌}
use Rattle.prop_lattice.specs.declared.info.Info.{Info}
use Rattle.prop_refusals.specs.declared.refusal.Refusal.{Refusal}
use Rattle.prop_refusals.specs.declared.refusal.Refusal.TheVariants.{Memory}
use Rattle.prop_numbers.specs.Sets.{set_of}
use Rattle.prop_procedures.specs.declared.shape.Param.{Param}
use Rattle.prop_procedures.specs.Stored.{Stored}
use Rattle.prop_scheduler.specs.Turns.{IsSettled}
use Rattle.prop_amb.specs.declared.outcome.Outcome as ends
use Rattle.prop_amb.specs.declared.outcome.Outcome.TheVariants.{Settled, Unsettled}
use Rattle.prop_amb.specs.Refuted.{IsCovered}
use Rattle.prop_amb.specs.Settling.{IfContradiction}
use Rattle.prop_amb.specs.Search as search
use Rattle.prop_premises.specs.ChoiceLists.{lists_count}
use Rattle.prop_scheduler.specs.Potential.{most_steps}
use Rattle.prop_language.specs.Commands as commands
use Rattle.prop_language.specs.Commands.{Command}
use Rattle.prop_vocabulary.specs.Cells.{cell_named}
use Rattle.prop_engine.specs.Answers.{Answer, Text, Refused}
use Rattle.prop_workbench.specs.declared.asking.Question.{Question}
use Rattle.prop_workbench.specs.declared.asking.Question.TheVariants.{Settle, Worldview, Ask, Why}
use Rattle.prop_workbench.specs.declared.session.Session.{Session}
use Rattle.prop_workbench.specs.Machine.{State, problem_in, choices_in, worldview_at}
use Rattle.prop_workbench.specs.Reasons.{IsLeanAnswer}
use Rattle.prop_workbench.specs.Running.{Outcome, MayEnd, Replies}
use Rattle.prop_amb.specs.Going.{Work}
use Rattle.prop_workbench.specs.Sessions.{state_of, library_of}
use Rattle.prop_workbench.specs.Steps.{Shown}
use Rattle.prop_workbench.specs.inner.Steps.{IsFollowed}
use Rattle.prop_workbench.specs.Waking.{Wakes}
use Rattle.prop_workbench.specs.Questions.{Earns, Picks, SaysUnsettled, outcome_of}

-- the command that asks the question
abbrev pub command_of : Question → Command
command_of Settle = commands.Command.Settle
command_of Worldview = commands.Command.Worldview
command_of (Ask cell name) = commands.Command.Ask name.now
command_of (Why cell name) = commands.Command.Why name.now

-- the cell in the question is the one with the name in it
abbrev pub IsNamed : State → Question → Type 0
IsNamed s Settle = ⊤
IsNamed s Worldview = ⊤
IsNamed s (Ask cell name) = cell_named s.names name.now ≡ Some cell
IsNamed s (Why cell name) = cell_named s.names name.now ≡ Some cell

-- A run of so many steps ended so and left this session, as the machine allows. A contradiction is
-- covered by the nogoods. If the run settled, the side of each choice is believed and the network
-- has settled. It took no more steps than the limit, and fewer than all lists may take; if it is
-- unsettled, just as many as the limit.
pub record HasRun {R O : Type 0} {X : Type 0} {F : X → Type 0} {g : _}
    (value : R → Param → List Info → Info) (s : Session R O X F g) (end : ends.Outcome) (steps : ℕ)
    : Type 0 where
  pub ends : MayEnd (library_of value s) (state_of s) (outcome_of s.search.list end)
  pub covered : IfContradiction end
      (λ ps. IsCovered (search.choices_in s.search) s.search.listed (set_of ps))
  pub full : end ≡ Settled → s.search.level ≡ length s.search.list
  pub settled : end ≡ Settled → IsSettled (library_of value s) (set_of s.search.worldview)
      s.live.network.cells
  pub within : steps ≤ (state_of s).limit
  pub few : steps < lists_count (choices_in (state_of s))
      * (most_steps (problem_in (library_of value s) (state_of s)) + 1)
  pub spent : end ≡ Unsettled → steps ≡ (state_of s).limit

-- the answer is a text that may reply to the command after a run that ended so, or that memory was
-- refused
abbrev pub MaySay : List Stored → State → Command → Outcome → ℕ → Answer → Type 0
MaySay library s command outcome steps answer =
    ((text : List ℕ) × Replies library s command outcome steps text × (answer ≡ Text text))
    ⊎ (answer ≡ Refused Memory)

-- where the answer is a text, it is an unsettled one that says what is believed so far
abbrev pub SaysSoFar : {O : Type 0} → State → Work O → Command → Answer → Type 0
SaysSoFar s work command answer = (text : List ℕ) → answer ≡ Text text
    → SaysUnsettled s work command text

-- what an answer rests on: `why` uses no entry that isn't needed, behind a text is a run of just so
-- many steps, and a line that runs nothing wakes no more instances than it has to
pub record RestsOn {O : Type 0} (picks : Picks O) (library : List Stored) (s t : State)
    (old new : Work O) (read : Result (Option Command) Refusal) (answer : Answer) (steps : ℕ) : Type
    0 where
  pub lean : IsLeanAnswer (worldview_at s new.search.list) new.cells s read answer
  pub earned : Earns picks library s old new read answer steps
  pub wakes : Wakes s t old new read answer

-- a line that was read so is answered by a step of the machine, and the answer rests on what it has
-- to
pub record Heeds {O : Type 0} (picks : Picks O) (library : List Stored) (old new : Shown)
    (from to : Work O) (answer : Answer) (steps : ℕ) (read : Result (Option Command) Refusal) : Type
    0 where
  pub step : IsFollowed library read answer steps old new
  pub rests : RestsOn picks library old.state new.state from to read answer steps
