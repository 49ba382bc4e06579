-- The workbench as a machine: which answers each line may be given, and how a session goes on. The
-- machines here have states that tell more and more: what was told, what a session shows, and the
-- work behind it.
use Rattle.std.specs.Prelude.{◌≡◌, ℕ, List, []}
use Rattle.prop_lattice.specs.declared.info.Info.{Info}
use Rattle.prop_procedures.specs.declared.shape.Param.{Param}
use Rattle.prop_procedures.specs.Stored.{Stored}
use Rattle.prop_cells.specs.Data.{no_data, problem_of}
use Rattle.prop_scheduler.specs.Turns.{IsUnderWay}
use Rattle.prop_amb.specs.Search.{no_stand, IsStand, IsSearch}
use Rattle.prop_amb.specs.Going.{Work}
use Rattle.prop_engine.specs.Answers.{Answer}
use Rattle.prop_engine.specs.Transcripts.{Machine}
use Rattle.prop_workbench.specs.declared.session.Session.{Session}
use Rattle.prop_workbench.specs.Machine.{State, worldview_at}
use Rattle.prop_workbench.specs.Steps.{Step, Shown, new_shown, IsStepOf}
use Rattle.prop_language.specs.Reading.{AsRead}
use Rattle.prop_numbers.specs.Sets.{set_of}
use Rattle.prop_workbench.specs.Reasons.{IsLeanAnswer}
use Rattle.prop_workbench.specs.Questions.{Picks, Earns}
use Rattle.prop_workbench.specs.Waking.{Wakes}
use Rattle.prop_workbench.specs.Sessions.{library_of, shown_of, work_of}

-- the workbench over a library of procedures: a line may be given each answer that a step of some
-- length allows
abbrev pub workbench : List Stored → Machine State
workbench library old line answer new = (steps : ℕ) × Step library old line answer new steps

-- By the line a session goes from what it showed to what it shows then. That is a step of the
-- workbench, whichever contradictions were named, if what the session has learned covers them.
pub record Shows (library : List Stored) (old : Shown) (line : List ℕ) (answer : Answer)
    (new : Shown) : Type 0 where
  pub steps : ℕ
  pub step : IsStepOf library old line answer new steps

-- the machine whose states are what sessions show: what was told, with the nogoods that were
-- learned
abbrev pub learning : List Stored → Machine Shown
learning library = Shows library

-- the same machine, over the library of this session
abbrev pub machine_of : {R O : Type 0} {X : Type 0} {F : X → Type 0} {g : _}
    → (R → Param → List Info → Info) → Session R O X F g → Machine Shown
machine_of value s = learning (library_of value s)

-- where a session stands: what it shows, and the work behind it
pub record Standing (O : Type 0) : Type 0 where
  pub shown : Shown
  pub work : Work O

abbrev pub standing_of : {R O : Type 0} {X : Type 0} {F : X → Type 0} {g : _} → Session R O X F g
    → Standing O
standing_of s = record { shown = shown_of s; work = work_of s }

-- where a new session stands that has this limit of steps and begins with this order of calls
abbrev pub new_standing : {O : Type 0} → ℕ → O → Standing O
new_standing limit order = record {
  shown = new_shown limit;
  work = record { search = no_stand; cells = no_data; line = []; order = order };
}

-- What a session shows has the same premises, nogoods, cells, statements and instances as the work
-- behind it. In the work each entry follows from its premises, each instance that doesn't wait has
-- its value below its output, and each choice stands on one of its sides. Its nogoods, and its
-- reasons against the sides that choices left, hold.
pub record WorkFits {O : Type 0} (library : List Stored) (at : Standing O) : Type 0 where
  pub premises : at.shown.state.premises ≡ at.work.search.premises
  pub learned : at.shown.learned ≡ at.work.search.listed
  pub kinds : at.shown.state.kinds ≡ at.work.cells.kinds
  pub statements : at.shown.state.statements ≡ at.work.cells.statements
  pub instances : at.shown.state.instances ≡ at.work.cells.instances
  pub under_way : IsUnderWay library (set_of at.work.search.worldview) at.work.cells at.work.line
  pub stand : IsStand at.work.search
  pub search : IsSearch (problem_of library at.work.cells) at.work.search

-- A line takes a session from where it stood to where it stands then, by a step of the machine. The
-- work fits what the session shows, if it did before. An explanation uses no entry that isn't
-- needed. Behind a text is a run of just so many steps, with each call at the place that the order
-- picks. A line that runs nothing wakes no more instances than it has to.
pub record Works {O : Type 0} (picks : Picks O) (library : List Stored) (old : Standing O)
    (line : List ℕ) (answer : Answer) (new : Standing O) : Type 0 where
  pub steps : ℕ
  pub step : IsStepOf library old.shown line answer new.shown steps
  pub fits : WorkFits library old → WorkFits library new
  pub lean : AsRead line (λ read.
      IsLeanAnswer (worldview_at old.shown.state new.work.search.list) new.work.cells
      old.shown.state read answer)
  pub earned : AsRead line (λ read.
      Earns picks library old.shown.state old.work new.work read answer steps)
  pub wakes : AsRead line (λ read.
      Wakes old.shown.state new.shown.state old.work new.work read answer)

-- the machine whose states are where sessions stand, in which instances are called in this order
abbrev pub working : {O : Type 0} → Picks O → List Stored → Machine (Standing O)
working picks library = Works picks library

-- the same machine, over the library of this session
abbrev pub working_of : {R O : Type 0} {X : Type 0} {F : X → Type 0} {g : _} → Picks O
    → (R → Param → List Info → Info) → Session R O X F g → Machine (Standing O)
working_of picks value s = working picks (library_of value s)
