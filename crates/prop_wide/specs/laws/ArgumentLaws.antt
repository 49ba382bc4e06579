-- From the laws of functions of informations to those of functions of lists of arguments.
use Rattle.std.specs.Prelude.{◌≡◌, ℤ, Bool, true, false, List, [], ◌∷◌, if◌then◌else◌}
use Rattle.std.proofs.Common.{refl, rules}
use Rattle.prop_intervals.specs.laws.Relations.{IsInRange}
use Rattle.prop_lattice.specs.Points.{Point, Number, Holds, IsPointOf}
use Rattle.prop_lattice.specs.declared.info.Info.{Info}
use Rattle.prop_lattice.specs.declared.info.Kind.TheVariants as kinds
use Rattle.prop_procedures.specs.declared.shape.Kinded.{Kinded}
use Rattle.prop_procedures.specs.declared.shape.Shape.{Shape}
use Rattle.prop_procedures.specs.declared.shape.Shape.TheVariants.{Span}
use Rattle.prop_procedures.specs.declared.shape.Param.{Param}
use Rattle.prop_procedures.specs.declared.shape.Param.TheVariants.{Plain, Scale, Rows}
use Rattle.prop_procedures.specs.Rules.{EachBelow, EachHolds, AreClear, is_scale}
use Rattle.prop_procedures.specs.inner.Places.{ArePointsOf}
use Rattle.prop_lattice.specs.Order.{Below}
use Rattle.prop_lattice.specs.Rank.{IsOf}
use Rattle.prop_lattice.specs.declared.info.Info.TheVariants.{Nothing}
use Rattle.prop_wide.specs.Points.{RelatesAtScale}
use Rattle.prop_wide.specs.Values.{at_a_scale}
use Rattle.prop_arith.specs.laws.Combined.{RelatesOne, RelatesTwo, at_one, at_two}

-- numbers in range that belong together lie in the answer

pub one_sound : (f : Info → Info) (related : ℤ → ℤ → Type 0)
    → ((x : Info) (u w : ℤ) → Holds x (Number u) → IsInRange u → IsInRange w → related u w
    → Holds (f x) (Number w))
    → (any : Shape → Kinded) (args : List Info) (points : List Point) (point : Point)
    → ArePointsOf any (Span ∷ []) points → IsPointOf kinds.Span 0 point → EachHolds args points
    → RelatesOne related points point → Holds (at_one f args) point
one_sound f related h any (x ∷ []) (Number u ∷ []) (Number w) ps k e r = h x u w e.0 ps.0 k r
one_sound f related h any args points point ps k e r = search rules

pub two_sound : (f : Info → Info → Info) (related : ℤ → ℤ → ℤ → Type 0)
    → ((x y : Info) (u v w : ℤ) → Holds x (Number u) → Holds y (Number v) → IsInRange u
    → IsInRange v → IsInRange w → related u v w → Holds (f x y) (Number w))
    → (any : Shape → Kinded) (args : List Info) (points : List Point) (point : Point)
    → ArePointsOf any (Span ∷ Span ∷ []) points → IsPointOf kinds.Span 0 point
    → EachHolds args points → RelatesTwo related points point → Holds (at_two f args) point
two_sound f related h any (x ∷ y ∷ []) (Number u ∷ Number v ∷ []) (Number w) ps k e r =
    h x y u v w e.0 e.1.0 ps.0 ps.1.0 k r
two_sound f related h any args points point ps k e r = search rules

-- ---- at a scale

pub at_a_scale_below : (f : ℤ → List Info → Info)
    → ((k : ℤ) → is_scale k ≡ true → (olds news : List Info) → EachBelow olds news
    → AreClear news → Below (f k olds) (f k news)) → (param : Param) (olds news : List Info)
    → EachBelow olds news → AreClear news → Below (at_a_scale f param olds)
    (at_a_scale f param news)
at_a_scale_below f h Plain olds news p n = tt
at_a_scale_below f h (Rows m) olds news p n = tt
at_a_scale_below f h (Scale k) olds news p n = by (is_scale k) refl
  where
    by : (t : Bool) → is_scale k ≡ t
        → Below (if t then f k olds else Nothing) (if t then f k news else Nothing)
    by true e = h k e olds news p n
    by false e = tt

pub at_a_scale_kind : (f : ℤ → List Info → Info)
    → ((k : ℤ) (args : List Info) → IsOf kinds.Span 0 (f k args)) → (param : Param)
    (args : List Info) → IsOf kinds.Span 0 (at_a_scale f param args)
at_a_scale_kind f h Plain args = tt
at_a_scale_kind f h (Rows m) args = tt
at_a_scale_kind f h (Scale k) args = by (is_scale k)
  where
    by : (t : Bool) → IsOf kinds.Span 0 (if t then f k args else Nothing)
    by true = h k args
    by false = tt

pub at_a_scale_sound : (f : ℤ → List Info → Info) (related : ℤ → List Point → Point → Type 0)
    (any : Shape → Kinded) (ins : List Shape)
    → ((k : ℤ) → is_scale k ≡ true → (args : List Info) (points : List Point) (point : Point)
    → ArePointsOf any ins points → IsPointOf kinds.Span 0 point → EachHolds args points
    → related k points point → Holds (f k args) point)
    → (param : Param) (args : List Info) (points : List Point) (point : Point)
    → ArePointsOf any ins points → IsPointOf kinds.Span 0 point → EachHolds args points
    → RelatesAtScale related param points point → Holds (at_a_scale f param args) point
at_a_scale_sound f related any ins h Plain args points point ps k e r = tt
at_a_scale_sound f related any ins h (Rows m) args points point ps k e r = tt
at_a_scale_sound f related any ins h (Scale k) args points point ps i e r = by (is_scale k) refl
  where
    by : (t : Bool) → is_scale k ≡ t → Holds (if t then f k args else Nothing) point
    by true s = h k s args points point ps i e r
    by false s = tt
