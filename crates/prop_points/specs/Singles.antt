-- Informations that leave a single point, and answers to them.
use Rattle.std.specs.Prelude.{◌≡◌, List, [], ◌∷◌, ⊤, count_ones}
use Rattle.prop_lattice.specs.Order.{HasElement}
use Rattle.prop_lattice.specs.Points.{Point, Number, Element, Symbol, Holds, IsPointOf}
use Rattle.prop_lattice.specs.declared.info.Info.{Info}
use Rattle.prop_lattice.specs.declared.info.Info.TheVariants.{Span, Set, Sym}
use Rattle.prop_procedures.specs.Rules.{IsCallAt, kind_of}
use Rattle.prop_procedures.specs.declared.shape.Kinded.{Kinded}
use Rattle.prop_procedures.specs.declared.shape.Need.{Need}
use Rattle.prop_procedures.specs.declared.shape.Param.{Param}
use Rattle.prop_procedures.specs.declared.shape.Shape.{Shape}

-- the information leaves only this point
abbrev pub IsSingle : Info → Point → Type 0
IsSingle (Span s) (Number v) = (s.lo ≡ v) × (s.hi ≡ v)
IsSingle (Set s) (Element i) = (count_ones s.bits ≡ 1) × HasElement s i
IsSingle (Sym a) (Symbol b) = a ≡ b
IsSingle a p = ⊥

-- each information leaves only the point in its place
abbrev pub AreSingle : List Info → List Point → Type 0
AreSingle [] [] = ⊤
AreSingle (a ∷ infos) (p ∷ points) = IsSingle a p × AreSingle infos points
AreSingle infos points = ⊥

-- whatever point the answer to single points holds, it belongs to these
abbrev pub IsExact : (Param → List Info → Info) → (Param → List Point → Point → Type 0) → List Shape
    → Shape → Need → Type 0
IsExact value related ins out need =
    (any : Shape → Kinded) (param : Param) (args : List Info) (points : List Point) (point : Point)
    → IsCallAt any ins need param args → AreSingle args points
    → IsPointOf (kind_of any out).kind (kind_of any out).size point → Holds (value param args) point
    → related param points point
