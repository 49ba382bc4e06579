-- What the answers of the kit's rules to single points tell.
use Rattle.std.specs.Prelude.{List, ⊤}
use Rattle.prop_lattice.specs.Points.{Point}
use Rattle.prop_procedures.specs.declared.shape.Need.{Need}
use Rattle.prop_procedures.specs.declared.shape.Param.{Param}
use Rattle.prop_procedures.specs.declared.shape.Shape.{Shape}
use Rattle.prop_arith.specs.Kit.{FormOf}
use Rattle.prop_arith.specs.Points.{Related}
use Rattle.prop_arith.specs.Values.{value_of}
use Rattle.prop_arith.specs.declared.kit.Kit.{Kit}
use Rattle.prop_arith.specs.declared.kit.Kit.TheVariants.{Div, Apart}
use Rattle.prop_points.specs.Singles.{IsExact}

-- What is told of a point that the answer to single points holds: it belongs to them. Of two rules
-- nothing is told, since `Div` answers nothing where it divides by zero, and `Apart` nothing where
-- the truth is `yes`.
abbrev pub KitTells : Kit → Param → List Point → Point → Type 0
KitTells Div param points point = ⊤
KitTells Apart param points point = ⊤
KitTells rule param points point = Related rule param points point

-- each rule of the kit tells so much, in its form
abbrev pub KitIsExact : Type 0
KitIsExact =
    (rule : Kit) (ins : List Shape) (out : Shape) (need : Need) → FormOf rule ins out need
    → IsExact (value_of rule) (KitTells rule) ins out need
