-- What a requirer keeps.
use Rattle.std.specs.Prelude.{List}
use Rattle.prop_lattice.specs.declared.info.Info.{Info}
use Rattle.prop_procedures.specs.declared.shape.Param.{Param}
use Rattle.prop_workbench.specs.Sessions.{library_of}
use Rattle.prop_blaming.specs.inner.Blamers.{IsReady as IsBlamerReady}
use Rattle.prop_requiring.specs.declared.requirer.Requirer.{Requirer}
use Rattle.prop_demands.specs.inner.Palettes.{IsPalette}

-- what holds of a requirer between lines
pub record IsReady {R O : Type 0} {X : Type 0} {F : X → Type 0} {g : _}
    (value : R → Param → List Info → Info) (r : Requirer R O X F g) : Type 0 where
  pub blamer : IsBlamerReady value r.blamer
  pub palette : IsPalette (library_of value r.blamer.seeker.teller.session)
