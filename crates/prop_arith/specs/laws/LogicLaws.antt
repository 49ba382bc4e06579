-- The laws of the functions of truth.
use Rattle.std.specs.Prelude.{◌≡◌, ◌≢◌, ℕ, ◌<◌, Bool, true, false, List, [], ◌∷◌, if◌then◌else◌}
use Rattle.std.proofs.Common.{refl, rules, subst, sym, ◌∙◌}
use Rattle.prop_intervals.specs.Comparisons.{yes_bits}
use Rattle.prop_lattice.specs.Order.{Below}
use Rattle.prop_lattice.specs.Points.{Point, Element, Holds, IsPointOf}
use Rattle.prop_lattice.specs.Rank.{IsOf}
use Rattle.prop_lattice.specs.declared.info.Info.{Info}
use Rattle.prop_lattice.specs.declared.info.Info.TheVariants.{Nothing, Contradiction}
use Rattle.prop_lattice.specs.declared.info.Kind.TheVariants as kinds
use Rattle.prop_procedures.specs.declared.shape.Kinded.{Kinded}
use Rattle.prop_procedures.specs.declared.shape.Shape.{Shape}
use Rattle.prop_procedures.specs.declared.shape.Shape.TheVariants.{Truth, Any}
use Rattle.prop_procedures.specs.Rules.{EachHolds}
use Rattle.prop_procedures.specs.inner.Places.{AreOf, ArePointsOf}
use Rattle.prop_arith.specs.inner.Compared.{is_just}
use Rattle.prop_arith.specs.laws.Combined.{RelatesElement, RelatesElements, RelatesWhere, at_one}
use Rattle.prop_arith.specs.laws.Combined.{at_two, passer_of}
use Rattle.prop_arith.specs.laws.SingleLaws.{never, just_stays, yes_single, yes_element}

-- ---- not, and, or

pub truth_sound : (f : Info → Info) (related : ℕ → ℕ → Type 0)
    → ((x : Info) (a y : ℕ) → a < 2 → y < 2 → Holds x (Element a) → related a y
    → Holds (f x) (Element y)) → (any : Shape → Kinded) (args : List Info) (points : List Point)
    (point : Point) → ArePointsOf any (Truth ∷ []) points → IsPointOf (kinds.Set 0) 2 point
    → EachHolds args points → RelatesElement related points point → Holds (at_one f args) point
truth_sound f related h any (x ∷ []) (Element a ∷ []) (Element y) ps k e r = h x a y ps.0 k e.0 r
truth_sound f related h any args points point ps k e r = search rules

pub truths_sound : (f : Info → Info → Info) (related : ℕ → ℕ → ℕ → Type 0)
    → ((x y : Info) (a b z : ℕ) → a < 2 → b < 2 → z < 2 → Holds x (Element a) → Holds y (Element b)
    → related a b z → Holds (f x y) (Element z))
    → (any : Shape → Kinded) (args : List Info) (points : List Point) (point : Point)
    → ArePointsOf any (Truth ∷ Truth ∷ []) points → IsPointOf (kinds.Set 0) 2 point
    → EachHolds args points → RelatesElements related points point → Holds (at_two f args) point
truths_sound f related h any (x ∷ y ∷ []) (Element a ∷ Element b ∷ []) (Element z) ps k e r =
    h x y a b z ps.0 ps.1.0 k e.0 e.1.0 r
truths_sound f related h any args points point ps k e r = search rules

-- ---- passing on

pub passer_below : (t x t' x' : Info) → Below t t' → Below x x' → t' ≢ Contradiction
    → x' ≢ Contradiction → Below (passer_of t x) (passer_of t' x')
passer_below t x t' x' p q n m = by (is_just yes_bits t) refl (is_just yes_bits t') refl
  where
    by : (s : Bool) → is_just yes_bits t ≡ s → (s' : Bool) → is_just yes_bits t' ≡ s'
        → Below (if s then x else Nothing) (if s' then x' else Nothing)
    by true e true e' = q
    by true e false e' = absurd (never (sym e' ∙ just_stays yes_bits t t' yes_single p n e))
    by false e s' e' = tt

pub passer_kind : (any : Shape → Kinded) (args : List Info) → AreOf any (Truth ∷ Any 0 ∷ []) args
    → IsOf (any (Any 0)).kind (any (Any 0)).size (at_two passer_of args)
passer_kind any (t ∷ x ∷ []) h = by (is_just yes_bits t)
  where
    by : (s : Bool) → IsOf (any (Any 0)).kind (any (Any 0)).size (if s then x else Nothing)
    by true = h.1.0
    by false = search rules
passer_kind any args h = search rules

pub passer_sound : (args : List Info) (points : List Point) (point : Point) → EachHolds args points
    → RelatesWhere points point → Holds (at_two passer_of args) point
passer_sound (t ∷ x ∷ []) (Element i ∷ p ∷ []) q e r = by (is_just yes_bits t) refl
  where
    by : (s : Bool) → is_just yes_bits t ≡ s → Holds (if s then x else Nothing) q
    by true f = subst (Holds x) (sym (r (yes_element t i f e.0))) e.1.0
    by false f = tt
passer_sound args points point e r = search rules
