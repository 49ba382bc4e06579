-- A network under way: a network with its agenda, in a worldview. A worldview is the set of the
-- premises that are believed.
use Rattle.std.specs.Prelude.{◌≡◌, ◌<◌, ℕ, List, All, length}
use Rattle.prop_lattice.specs.declared.info.Info.{Info}
use Rattle.prop_procedures.specs.declared.shape.Param.{Param}
use Rattle.prop_procedures.specs.Stored.{Stored}
use Rattle.prop_procedures.specs.Kept.{stored_of}
use Rattle.prop_contents.specs.Contents.{beliefs}
use Rattle.prop_cells.specs.Problems.{Problem}
use Rattle.prop_cells.specs.inner.Problems.{Premises}
use Rattle.prop_cells.specs.Data.{Data, IsKept, problem_of}
use Rattle.prop_scheduler.specs.Agendas.{Waiting}
use Rattle.prop_scheduler.specs.Potential.{potential}
use Rattle.prop_scheduler.specs.Turns.{IsUnderWay}
use Rattle.prop_scheduler.specs.Watching.{IsWatched}
use Rattle.prop_scheduler.specs.declared.live.Live.{Live}

-- the network's data: its cells with what they hold, its parameters, its statements and its
-- instances
abbrev pub cells_of : {R : Type 0} {X : Type 0} {F : X → Type 0} {g : _} → Live R X F g → Data
cells_of live = live.network.cells

-- the instances that wait, in their order
abbrev pub line_of : {R : Type 0} {X : Type 0} {F : X → Type 0} {g : _} → Live R X F g → List ℕ
line_of live = live.agenda.line

-- the network's procedures, each with what its rule means
abbrev pub library_of : {R : Type 0} {X : Type 0} {F : X → Type 0} {g : _}
    → (R → Param → List Info → Info) → Live R X F g → List Stored
library_of value live = stored_of value live.network.library

-- the problem that the network poses
abbrev pub problem_in : {R : Type 0} {X : Type 0} {F : X → Type 0} {g : _}
    → (R → Param → List Info → Info) → Live R X F g → Problem
problem_in value live = problem_of (library_of value live) (cells_of live)

-- the potential of the given problem, by what waits and what the premises believe now
abbrev pub potential_by : {R : Type 0} {X : Type 0} {F : X → Type 0} {g : _} → Problem → Premises
    → Live R X F g → ℕ
potential_by problem s live = potential problem (beliefs s (cells_of live).contents) (line_of live)

-- the potential of the network's own problem in a worldview
abbrev pub potential_in : {R : Type 0} {X : Type 0} {F : X → Type 0} {g : _}
    → (R → Param → List Info → Info) → Premises → Live R X F g → ℕ
potential_in value s live = potential_by (problem_in value live) s live

-- The network is under way in the worldview, with the instances that wait, and each cell that is
-- believed to hold a contradiction is watched.
pub record IsLiveIn {R : Type 0} {X : Type 0} {F : X → Type 0} {g : _}
    (value : R → Param → List Info → Info) (s : Premises) (live : Live R X F g) : Type 0 where
  pub under_way : IsUnderWay (library_of value live) s (cells_of live) (line_of live)
  pub watched : IsWatched s (cells_of live) live.agenda.watched

-- The network may be woken in any worldview: its data are kept, with each entry founded, the
-- waiting instances are instances of it, and the watched cells are cells of it.
pub record IsReady (library : List Stored) (d : Data) (agenda : Waiting) : Type 0 where
  pub kept : IsKept library d
  pub line : All (λ j. j < length d.instances) agenda.line
  pub watched : All (λ cell. cell < length d.kinds) agenda.watched

-- nothing has changed but what the cells hold, and what waits or is watched
pub record OnlyRan {R : Type 0} {X : Type 0} {F : X → Type 0} {g : _} (old new : Live R X F g)
    : Type 0 where
  pub library : new.network.library ≡ old.network.library
  pub rest : cells_of new ≡ record (cells_of old) { contents = (cells_of new).contents }
