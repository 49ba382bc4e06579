-- What the host's rule means.
use Rattle.std.specs.Prelude.{◌≡◌, List, [], ◌∷◌}
use Rattle.std.specs.Int.{int_max}
use Rattle.prop_intervals.specs.Clip.{clip}
use Rattle.prop_lattice.specs.Points.{Point, Number}
use Rattle.prop_lattice.specs.declared.info.Info.{Info}
use Rattle.prop_lattice.specs.declared.info.Info.TheVariants as infos
use Rattle.prop_procedures.specs.declared.shape.Param.{Param}
use Rattle.prop_procedures.specs.declared.shape.Shape.{Shape}
use Rattle.prop_procedures.specs.declared.shape.Shape.TheVariants.{Span}
use Rattle.prop_procedures.specs.declared.shape.Need.{Need}
use Rattle.prop_procedures.specs.declared.shape.Need.TheVariants.{Nothing}
use Rattle.prop_host_tests.specs.declared.host.Host as hosts
use Rattle.prop_host_tests.specs.declared.host.Host.TheVariants.{Maxer}

-- the one form of the rule
abbrev pub FormOf : hosts.Host → List Shape → Shape → Need → Type 0
FormOf Maxer ins out need = (ins ≡ Span ∷ Span ∷ []) × (out ≡ Span) × (need ≡ Nothing)

-- what the rule answers
abbrev pub value_of : hosts.Host → Param → List Info → Info
value_of Maxer param (infos.Span a ∷ infos.Span b ∷ []) =
    clip (int_max a.lo b.lo) (int_max a.hi b.hi)
value_of rule param args = infos.Nothing

-- the points that belong together
abbrev pub Related : hosts.Host → Param → List Point → Point → Type 0
Related Maxer param (Number x ∷ Number y ∷ []) (Number z) = z ≡ int_max x y
Related rule param points point = ⊥
