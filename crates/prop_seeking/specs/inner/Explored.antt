-- What of a session a search for conflicts goes over.
use Rattle.std.specs.Prelude.{List}
use Rattle.prop_lattice.specs.declared.info.Info.{Info}
use Rattle.prop_procedures.specs.declared.shape.Param.{Param}
use Rattle.prop_workbench.specs.Sessions.{library_of}
use Rattle.prop_workbench.specs.declared.session.Session.{Session}
use Rattle.prop_conflicts.specs.Conflicts.{Ground, ground_at}

-- the procedures of a session, its cells with their statements and instances, and its premises
abbrev pub ground_in : {R O : Type 0} {X : Type 0} {F : X → Type 0} {g : _}
    → (R → Param → List Info → Info) → Session R O X F g → Ground
ground_in value s = ground_at (library_of value s) s.live.network.cells s.search.premises
