-- The laws of the functions that go along a relation.
use Rattle.std.specs.Prelude.{◌≢◌, ℕ, List, [], ◌∷◌}
use Rattle.std.proofs.Common.{refl, rules, subst, sym}
use Rattle.prop_lattice.specs.Order.{Below, HasElement}
use Rattle.prop_lattice.specs.Points.{Point, Element, Holds}
use Rattle.prop_lattice.specs.Rank.{IsOf}
use Rattle.prop_lattice.specs.declared.elements.Elements as sets
use Rattle.prop_lattice.specs.declared.info.Info.{Info}
use Rattle.prop_lattice.specs.declared.info.Info.TheVariants.{Set, Contradiction}
use Rattle.prop_lattice.specs.declared.info.Kind.{Kind}
use Rattle.prop_lattice.specs.declared.info.Kind.TheVariants as kinds
use Rattle.prop_procedures.specs.declared.shape.Kinded.{Kinded}
use Rattle.prop_procedures.specs.declared.shape.Param.{Param}
use Rattle.prop_procedures.specs.declared.shape.Param.TheVariants.{Plain, Scale, Rows}
use Rattle.prop_procedures.specs.declared.shape.Shape.{Shape}
use Rattle.prop_procedures.specs.declared.shape.Shape.TheVariants.{From, To}
use Rattle.prop_procedures.specs.Rules.{EachBelow, EachHolds, AreClear}
use Rattle.prop_procedures.specs.inner.Places.{AreSides}
use Rattle.prop_sets.specs.laws.ImageLaws.{image_kind, coimage_kind}
use Rattle.prop_sets.specs.Images.{image_of, coimage_of}
use Rattle.prop_sets.specs.Relation.{Relation}
use Rattle.prop_arith.specs.laws.Combined.{RelatesByRows, at_one, at_rows, on_set}
use Rattle.prop_arith.specs.laws.ArgumentLaws.{one_below, one_kind}

-- ---- more in the arguments is more in the answer

set_below : (f : sets.Elements → Info)
    → ((a c : sets.Elements) → Below (Set a) (Set c) → Below (f a) (f c)) → (x x' : Info)
    → Below x x' → x' ≢ Contradiction → Below (on_set f x) (on_set f x')
set_below f h (Set a) (Set c) p n = h a c p
set_below f h (Set a) Contradiction p n = absurd (n refl)
set_below f h x x' p n = search rules

pub rows_below : (f : Relation → sets.Elements → Info)
    → ((m : Relation) (a c : sets.Elements) → Below (Set a) (Set c) → Below (f m a) (f m c))
    → (param : Param) (olds news : List Info) → EachBelow olds news → AreClear news
    → Below (at_rows (λ m. on_set (f m)) param olds) (at_rows (λ m. on_set (f m)) param news)
rows_below f h (Rows m) olds news p n =
    one_below (on_set (f m)) (set_below (f m) (h m)) olds news p n
rows_below f h Plain olds news p n = tt
rows_below f h (Scale k) olds news p n = tt

-- ---- answers of their kind

set_kind : (kind : Kind) (size : ℕ) (f : sets.Elements → Info)
    → ((a : sets.Elements) → IsOf kind size (f a)) → (x : Info) → IsOf kind size (on_set f x)
set_kind kind size f h (Set a) = h a
set_kind kind size f h x = search rules

pub imager_kind : (any : Shape → Kinded) (param : Param) (args : List Info) → AreSides any param
    → IsOf (any To).kind (any To).size (at_rows (λ m. on_set (image_of m)) param args)
imager_kind any (Rows m) args s =
    subst (λ k. IsOf k.kind k.size (at_one (on_set (image_of m)) args)) (sym s.1)
    (one_kind (kinds.Set m.to.domain) m.to.size (on_set (image_of m))
    (set_kind (kinds.Set m.to.domain) m.to.size (image_of m) (image_kind m.to.domain m)) args)
imager_kind any Plain args s = search rules
imager_kind any (Scale k) args s = search rules

pub coimager_kind : (any : Shape → Kinded) (param : Param) (args : List Info) → AreSides any param
    → IsOf (any From).kind (any From).size (at_rows (λ m. on_set (coimage_of m)) param args)
coimager_kind any (Rows m) args s =
    subst (λ k. IsOf k.kind k.size (at_one (on_set (coimage_of m)) args)) (sym s.0)
    (one_kind (kinds.Set m.from.domain) m.from.size (on_set (coimage_of m))
    (set_kind (kinds.Set m.from.domain) m.from.size (coimage_of m)
    (coimage_kind m.from.domain m)) args)
coimager_kind any Plain args s = search rules
coimager_kind any (Scale k) args s = search rules

-- ---- answers that hold what belongs to the arguments

pub rows_sound : (f : Relation → sets.Elements → Info) (related : Relation → ℕ → ℕ → Type 0)
    → ((m : Relation) (s : sets.Elements) (x y : ℕ) → HasElement s x → related m x y
    → Holds (f m s) (Element y)) → (param : Param) (args : List Info) (points : List Point)
    (point : Point) → EachHolds args points → RelatesByRows related param points point
    → Holds (at_rows (λ m. on_set (f m)) param args) point
rows_sound f related h (Rows m) (Set s ∷ []) (Element x ∷ []) (Element y) e r = h m s x y e.0 r
rows_sound f related h param args points point e r = search rules
