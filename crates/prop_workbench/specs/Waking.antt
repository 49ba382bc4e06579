-- What a line makes of the work behind a session: of the search, of the entries that cells hold,
-- and of the instances that wait.
use Rattle.std.specs.Prelude.{◌≡◌, List, ◌++◌, ◌∷◌, [], ℕ, Option, Some, Result, Ok, if◌then◌else◌}
use Rattle.std.specs.Prelude.{length, take, ⊤}
use Rattle.prop_refusals.specs.declared.refusal.Refusal.{Refusal}
use Rattle.prop_refusals.specs.declared.refusal.Refusal.TheVariants.{Memory}
use Rattle.prop_numbers.specs.Sets.{Members}
use Rattle.prop_nogoods.specs.Stores.{lacking}
use Rattle.prop_contents.specs.Contents.{content_of}
use Rattle.prop_cells.specs.declared.instance.Statement.{Statement}
use Rattle.prop_cells.specs.Instances.{Instance, readers_of}
use Rattle.prop_cells.specs.Data.{Data}
use Rattle.prop_cells.specs.Forgetting.{forgotten}
use Rattle.prop_cells.specs.Sides.{StatesAll}
use Rattle.prop_scheduler.specs.Agendas.{all_alerted, numbers_below}
use Rattle.prop_scheduler.specs.Shifts.{Stirs, AreMade, touching}
use Rattle.prop_amb.specs.Search.{Stand}
use Rattle.prop_amb.specs.Moving.{restarted}
use Rattle.prop_amb.specs.Going.{Work}
use Rattle.prop_language.specs.Commands.{Command}
use Rattle.prop_engine.specs.Answers.{Answer, Done, Refused}
use Rattle.prop_workbench.specs.Machine.{State, worldview_at}
use Rattle.prop_workbench.specs.inner.Machine.{users_in}
use Rattle.prop_workbench.specs.Effects.{number_given}

-- what is believed where the search stands so: the user's believed premises, and of the first
-- choices, as many as the level says, the sides on which they stand
abbrev pub believed_at : State → Stand → Members
believed_at s search = worldview_at s (take search.level search.list)

-- Which instances wait after a line, and in which order. They are those that waited, and behind
-- them those that the cells wake (`wakes`) of which something else is believed than before the
-- line.
abbrev pub Wake : {O : Type 0} → (List Instance → ℕ → List ℕ) → State → State → Work O → Work O
    → Type 0
Wake wakes s t old new = Stirs (wakes new.cells.instances) (believed_at s old.search)
    (believed_at t new.search) old.cells new.cells old.line (length new.cells.kinds) new.line

-- each cell holds the entries that it held before
abbrev pub HoldsSame : Data → Data → Type 0
HoldsSame old new = (cell : ℕ) → content_of new.contents cell ≡ content_of old.contents cell

-- each cell holds the entries that it held before, but for what some statements added
abbrev pub HoldsStated : Data → Data → Type 0
HoldsStated old new = (xs : List Statement) × StatesAll old new xs

-- What a line leaves. The search is the stand that is given, but for its premises and its
-- worldview. The order is as it was. What is said of the entries (`Holds`) and of the waiting
-- instances (`Waits`) holds.
pub record IsLeft {O : Type 0} (stand : Stand) (Holds Waits : Type 0) (old new : Work O) : Type 0
  where
    pub search : new.search
        ≡ record stand { premises = new.search.premises; worldview = new.search.worldview }
    pub order : new.order ≡ old.order
    pub holds : Holds
    pub line : Waits

-- A statement was made. The search stays, and where something else is believed of a cell than
-- before, the instances that read the cell wait.
abbrev pub IsTold : {O : Type 0} → State → State → Work O → Work O → Type 0
IsTold s t old new = IsLeft old.search (HoldsStated old.cells new.cells)
    (Wake readers_of s t old new) old new

-- one more choice, which stands on its first side; no reasons are kept for it yet
abbrev pub one_more : Stand → Stand
one_more s = record s { list = s.list ++ 1 ∷ []; reasons = s.reasons ++ [] ∷ [] }

-- A choice was made, and stands on its first side. Where something else is believed of a cell than
-- before, the instances that read or write the cell wait.
abbrev pub IsChosen : {O : Type 0} → State → State → Work O → Work O → Type 0
IsChosen s t old new = IsLeft (one_more old.search) (HoldsStated old.cells new.cells)
    (Wake touching s t old new) old new

-- A premise was kicked out or brought back, and the search is this stand. The entries stay. Where
-- something else is believed of a cell than before, the instances that read or write the cell wait.
abbrev pub IsShifted : {O : Type 0} → State → State → Stand → Work O → Work O → Type 0
IsShifted s t stand old new = IsLeft stand (HoldsSame old.cells new.cells)
    (Wake touching s t old new) old new

-- A premise was forgotten. The entries that rest on it go, and so do the nogoods that hold it. Each
-- choice stands on its first side, and each instance waits.
abbrev pub IsForgotten : {O : Type 0} → ℕ → Work O → Work O → Type 0
IsForgotten p old new = IsLeft
    (record (restarted old.search) { listed = lacking old.search.listed p })
    (new.cells ≡ forgotten p old.cells)
    (new.line ≡ all_alerted old.line (numbers_below (length new.cells.instances))) old new

-- Only cells and instances are new. The search and the entries stay, and the new instances wait
-- behind those that waited.
abbrev pub IsAdded : {O : Type 0} → Work O → Work O → Type 0
IsAdded old new = IsLeft old.search (HoldsSame old.cells new.cells)
    (AreMade old.cells new.cells old.line new.line) old new

-- What a command that runs nothing leaves, where it is done. If it kicks out a premise that was
-- believed, each choice goes back to its first side.
abbrev pub Leaves : {O : Type 0} → State → State → Command → Work O → Work O → Type 0
Leaves s t (Command.Tell premise cell value) old new = IsTold s t old new
Leaves s t (Command.Fix cell value) old new = IsTold s t old new
Leaves s t (Command.Choose name cell values) old new = IsChosen s t old new
Leaves s t (Command.Kick name) old new =
    IsShifted s t (if users_in s (number_given s.premises name) then restarted old.search else
    old.search) old new
Leaves s t (Command.Bring name) old new = IsShifted s t old.search old new
Leaves s t (Command.Forget name) old new = IsForgotten (number_given s.premises name) old new
Leaves s t command old new = IsAdded old new

-- A command that runs the network is refused for want of memory, maybe in the midst of the run, or
-- for another reason before the run: then the work stays. Of other answers nothing is asked.
abbrev pub StaysUnlessRun : {O : Type 0} → Work O → Work O → Answer → Type 0
StaysUnlessRun old new (Refused Memory) = ⊤
StaysUnlessRun old new (Refused refusal) = new ≡ old
StaysUnlessRun old new answer = ⊤

-- What a line makes of the work, by what was read in it and how it was answered. All stays as it
-- was unless a command was done or ran the network.
abbrev pub Wakes : {O : Type 0} → State → State → Work O → Work O → Result (Option Command) Refusal
    → Answer → Type 0
Wakes s t old new (Ok (Some Command.Settle)) answer = StaysUnlessRun old new answer
Wakes s t old new (Ok (Some (Command.Ask x))) answer = StaysUnlessRun old new answer
Wakes s t old new (Ok (Some (Command.Why x))) answer = StaysUnlessRun old new answer
Wakes s t old new (Ok (Some (Command.Core x))) answer = StaysUnlessRun old new answer
Wakes s t old new (Ok (Some Command.Worldview)) answer = StaysUnlessRun old new answer
Wakes s t old new (Ok (Some command)) Done = Leaves s t command old new
Wakes s t old new read answer = new ≡ old
