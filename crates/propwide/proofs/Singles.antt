-- Of single points the rules of many cells answer those alone that belong to them.
use Rattle.std.proofs.Common.{◌≡◌, ℕ, ◌≤◌, List, [], ◌∷◌, length, arith, rules, subst}
use Rattle.std.proofs.lemmas.Bool.{and_parts}
use Rattle.std.specs.List.{list_all}
use Rattle.prop_lattice.specs.Points.{Point, Number, Element, Symbol, Holds, IsPointOf}
use Rattle.prop_lattice.specs.Rank.{IsOf}
use Rattle.prop_lattice.specs.declared.info.Info.{Info}
use Rattle.prop_lattice.specs.declared.info.Info.TheVariants.{Span}
use Rattle.prop_lattice.specs.declared.info.Kind.TheVariants as kinds
use Rattle.prop_procedures.specs.declared.shape.Kinded.{Kinded}
use Rattle.prop_procedures.specs.declared.shape.Need.{Need}
use Rattle.prop_procedures.specs.declared.shape.Shape.{Shape}
use Rattle.prop_procedures.specs.inner.Places.{AreOf}
use Rattle.prop_many.specs.Exact.{AreJust, IsJust}
use Rattle.prop_many.specs.Many.{AreNumbers, FormOf, Related, is_number, value_of}
use Rattle.prop_many.specs.declared.many.Many.{Many}
use Rattle.prop_many.specs.laws.SinglesLaws.{each_is_exact}
use Rattle.prop_many.specs.laws.NumberLaws.{first_is_number}
use Rattle.prop_points.specs.Singles.{AreSingle, IsExact, IsSingle}

just_one : (a : Info) (p : Point) → IsOf kinds.Span 0 a → IsSingle a p → IsJust a p
just_one (Span s) (Number v) o e = e
just_one a p o e = search rules

just : (any : Shape → Kinded) (ins : List Shape) (args : List Info) (points : List Point) → AreNumbers ins
    → AreOf any ins args → AreSingle args points → AreJust args points
just any [] [] [] f o e = tt
just any (s ∷ ins) (a ∷ args) (p ∷ points) f o e = (
  just_one a p (rw (first_is_number s ins f) at o.0) e.0,
  just any ins args points (and_parts (is_number s) (list_all is_number ins) f).1 o.1 e.1,
)
just any ins args points f o e = search rules

as_many : (any : Shape → Kinded) (ins : List Shape) (args : List Info) → AreOf any ins args
    → length ins ≡ length args
as_many any [] [] o = omega arith
as_many any (s ∷ ins) (a ∷ args) o = omega (arith, as_many any ins args o.1)
as_many any ins args o = search rules

pub many_are_exact : (rule : Many) (ins : List Shape) (out : Shape) (need : Need) → FormOf rule ins out need
    → IsExact (value_of rule) (Related rule) ins out need
many_are_exact rule ins out need f any param args points point c e p h =
    each_is_exact rule param args points point (omega (arith, f.0.1, as_many any ins args c.of_kinds))
    (just any ins args points f.0.0 c.of_kinds e) (rw f.1 at p) h
