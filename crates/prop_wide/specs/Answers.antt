-- Which answers are the narrowest.
use Rattle.std.specs.Prelude.{ℤ, List, [], ◌∷◌, ◌*ℤ◌, ◌≤ℤ◌, ⊤}
use Rattle.prop_lattice.specs.Points.{Point, Holds, IsPointOf}
use Rattle.prop_lattice.specs.Rank.{IsOf}
use Rattle.prop_lattice.specs.declared.span.TheConstants.{B}
use Rattle.prop_lattice.specs.declared.info.Info.{Info}
use Rattle.prop_procedures.specs.Rules.{EachHolds, IsCallAt, kind_of}
use Rattle.prop_procedures.specs.inner.Places.{ArePointsOf}
use Rattle.prop_procedures.specs.declared.shape.Kinded.{Kinded}
use Rattle.prop_procedures.specs.declared.shape.Need.{Need}
use Rattle.prop_procedures.specs.declared.shape.Param.{Param}
use Rattle.prop_procedures.specs.declared.shape.Param.TheVariants.{Scale}
use Rattle.prop_procedures.specs.declared.shape.Shape.{Shape}
use Rattle.prop_wide.specs.Distances.{greatest_distance}
use Rattle.prop_wide.specs.Points.{Related}
use Rattle.prop_wide.specs.Values.{value_of}
use Rattle.prop_wide.specs.Wide.{FormOf}
use Rattle.prop_wide.specs.declared.wide.Wide as wides
use Rattle.prop_wide.specs.declared.wide.Wide.TheVariants.{Square}

-- r leaves each point of a kind of which P is true, and no point of the kind that is left out by an
-- information of the kind which leaves all of those
pub record IsNarrowest (kinded : Kinded) (P : Point → Type 0) (r : Info) : Type 0 where
  pub holds : (p : Point) → IsPointOf kinded.kind kinded.size p → P p → Holds r p
  pub within : (other : Info) → IsOf kinded.kind kinded.size other
      → ((p : Point) → IsPointOf kinded.kind kinded.size p → P p → Holds other p)
      → (p : Point) → IsPointOf kinded.kind kinded.size p → Holds r p → Holds other p

-- the point belongs to points that the arguments leave
pub record Belongs (any : Shape → Kinded) (ins : List Shape)
    (related : List Point → Point → Type 0) (args : List Info) (point : Point) : Type 0 where
  pub points : List Point
  pub of_kinds : ArePointsOf any ins points
  pub held : EachHolds args points
  pub belongs : related points point

-- there are points of these shapes: no domain is without elements
abbrev pub HavePoints : (Shape → Kinded) → List Shape → Type 0
HavePoints any ins = (points : List Point) × ArePointsOf any ins points

-- no number has to be cut off: the greatest square lies in range
abbrev pub IsInside : wides.Wide → Param → List Info → Type 0
IsInside Square (Scale k) (x ∷ []) = (greatest_distance x *ℤ greatest_distance x) ≤ℤ (B *ℤ k)
IsInside rule param args = ⊤

-- a rule's answer is the narrowest information that leaves each point that belongs to points of the
-- arguments
abbrev pub EachIsNarrowest : Type 0
EachIsNarrowest =
    (rule : wides.Wide) (ins : List Shape) (out : Shape) (need : Need) → FormOf rule ins out need
    → (any : Shape → Kinded) (param : Param) (args : List Info) → IsCallAt any ins need param args
    → HavePoints any ins → IsInside rule param args →
    IsNarrowest (kind_of any out) (Belongs any ins (Related rule param) args)
    (value_of rule param args)
