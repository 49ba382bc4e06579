-- What a blamer keeps.
use Rattle.std.specs.Prelude.{◌≤◌, ℕ, List, Bool, All, Contains, IfSome, length}
use Rattle.prop_lattice.specs.declared.info.Info.{Info}
use Rattle.prop_procedures.specs.declared.shape.Param.{Param}
use Rattle.prop_numbers.specs.Sets.{IsPart, set_of}
use Rattle.prop_premises.specs.Origins.{Origin, believed_in}
use Rattle.prop_seeking.specs.inner.Seekers.{IsReady as IsSeekerReady}
use Rattle.prop_seeking.specs.inner.Explored.{ground_in}
use Rattle.prop_hitting.specs.declared.conflict.Conflict.{Conflict}
use Rattle.prop_conflicts.specs.Conflicts.{Ground, IsConflict}
use Rattle.prop_conflicts.specs.declared.explorer.Explorer.{Explorer}
use Rattle.prop_conflicts.specs.inner.Explorers.{IsExplored}
use Rattle.prop_blaming.specs.Asking.{Wish}
use Rattle.prop_blaming.specs.declared.asking.Asked.{Asked}
use Rattle.prop_blaming.specs.declared.asking.Asked.TheVariants.{Conflicts, Repairs, Cheapest}
use Rattle.prop_blaming.specs.declared.blamer.Blamer.{Blamer}

-- the wish that the program's own form of it stands for
abbrev pub asked_of : Asked → Wish
asked_of (Conflicts most) = Wish.Conflicts most
asked_of (Repairs most) = Wish.Repairs most
asked_of (Cheapest most weights) = Wish.Cheapest most weights.items

-- these premises are believed
abbrev pub AreBelieved : List Origin → List ℕ → Type 0
AreBelieved premises by = IsPart (set_of by) (believed_in premises)

-- Conflicts that a search has found, no more than `most`. They are all that it has found, if these
-- are no more.
pub record AreListed (e : Explorer) (most : ℕ) (found : List Conflict) : Type 0 where
  pub few : length found ≤ most
  pub so : (g : Ground) → IsExplored g e → All (IsConflict g) found
  pub all : length e.conflicts.items ≤ most → (c : Conflict) → Contains e.conflicts.items c
      → Contains found c

-- what holds of a blamer between lines
pub record IsReady {R O : Type 0} {X : Type 0} {F : X → Type 0} {g : _}
    (value : R → Param → List Info → Info) (b : Blamer R O X F g) : Type 0 where
  pub seeker : IsSeekerReady value b.seeker
  pub explored : IfSome b.explorer (IsExplored (ground_in value b.seeker.teller.session))
