-- What commands keep of a session, and what is known of a command that was read.
use Rattle.std.specs.Prelude.{◌≡◌, ◌≤◌, List, [], Option, Some, length, ⊤}
use Rattle.prop_language.specs.Commands.{Command}
use Rattle.prop_lattice.specs.declared.info.Info.{Info}
use Rattle.prop_numbers.specs.Sets.{Members}
use Rattle.prop_procedures.specs.declared.shape.Param.{Param}
use Rattle.prop_amb.specs.Refuted.{IsCovered}
use Rattle.prop_amb.specs.Search.{choices_in}
use Rattle.prop_workbench.specs.declared.session.Session.{Session}
use Rattle.prop_workbench.specs.Sessions.{IsInOrder, steps_of}

-- The command leaves the library as it was, and the count of steps of the last line. The session
-- stays in order.
pub record Stays {R O : Type 0} {X : Type 0} {F : X → Type 0} {g : _}
    (value : R → Param → List Info → Info) (old new : Session R O X F g) : Type 0 where
  pub library : new.live.network.library ≡ old.live.network.library
  pub sound : IsInOrder value new
  pub steps : steps_of new ≡ steps_of old

-- the same, and what the nogoods covered they still cover
pub record Keeps {R O : Type 0} {X : Type 0} {F : X → Type 0} {g : _}
    (value : R → Param → List Info → Info) (old new : Session R O X F g) : Type 0 where
  pub library : new.live.network.library ≡ old.live.network.library
  pub sound : IsInOrder value new
  pub steps : steps_of new ≡ steps_of old
  pub covers : (m : Members) → IsCovered (choices_in old.search) old.search.listed m
      → IsCovered (choices_in new.search) new.search.listed m

-- where a domain is declared it has an element, and where a choice is, two to eight values
abbrev pub HasElements : Option Command → Type 0
HasElements (Some (Command.Domain name [])) = ⊥
HasElements (Some (Command.Choose name cell values)) = (2 ≤ length values) × (length values ≤ 8)
HasElements command = ⊤
