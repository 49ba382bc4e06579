-- Numbers that are known more closely, and numbers that are held.
use Rattle.std.specs.Prelude.{◌≡◌, ℤ, ◌≤ℤ◌, Bool, true, false, ◌&&◌, int_le, List, [], ◌∷◌}
use Rattle.std.specs.List.{AllZip, list_all}
use Rattle.std.proofs.Common.{arith, refl}
use Rattle.std.proofs.lemmas.Bool.{and_parts}
use Rattle.std.proofs.lemmas.Int.{ints}
use Rattle.prop_lattice.specs.Points.{Point, Number, Element, Symbol, Holds, IsPointOf}
use Rattle.prop_lattice.specs.declared.info.Info.{Info}
use Rattle.prop_lattice.specs.declared.info.Kind.TheVariants as kinds
use Rattle.prop_procedures.specs.declared.shape.Kinded.{Kinded}
use Rattle.prop_procedures.specs.declared.shape.Shape.{Shape}
use Rattle.prop_procedures.specs.declared.shape.Shape.TheVariants.{Span, Truth, Any, From, To}
use Rattle.prop_procedures.specs.Rules.{AreClear, EachBelow, EachHolds}
use Rattle.prop_procedures.specs.inner.Places.{ArePointsOf}
use Rattle.prop_wide.specs.laws.EndLaws.{AreWithin, IsBetween, ends_within, held_between}
use Rattle.prop_many.specs.Many.{AreNumbers, is_number}

pub never : false ≡ true → ⊥
never e = cc

-- ---- more is known

-- each is known more closely than the one in its place
abbrev pub AreCloser : List Info → List Info → Type 0
AreCloser = AllZip AreWithin

pub closer : (olds news : List Info) → EachBelow olds news → AreClear news → AreCloser olds news
closer [] [] p n = tt
closer (a ∷ olds) (b ∷ news) p n = (ends_within a b p.0 n.0, closer olds news p.1 n.1)
closer [] (b ∷ news) p n = absurd p
closer (a ∷ olds) [] p n = absurd p

-- ---- points

-- the point is a number between the ends
abbrev pub IsKept : Info → Point → Type 0
IsKept a (Number v) = IsBetween a v
IsKept a p = ⊥

abbrev pub AreKept : List Info → List Point → Type 0
AreKept = AllZip IsKept

pub first_is_number : (s : Shape) (shapes : List Shape) → AreNumbers (s ∷ shapes) → s ≡ Span
first_is_number s shapes f = by s (and_parts (is_number s) (list_all is_number shapes) f).0
  where
    by : (s : Shape) → is_number s ≡ true → s ≡ Span
    by Span e = refl
    by Truth e = absurd (never e)
    by (Any n) e = absurd (never e)
    by From e = absurd (never e)
    by To e = absurd (never e)

pub kept : (any : Shape → Kinded) (ins : List Shape) (args : List Info) (points : List Point)
    → AreNumbers ins → ArePointsOf any ins points → EachHolds args points → AreKept args points
kept any ins [] [] f ps h = tt
kept any (s ∷ ins) (a ∷ args) (p ∷ points) f ps h = (
  by p (rw (first_is_number s ins f) at ps.0) h.0,
  kept any ins args points (and_parts (is_number s) (list_all is_number ins) f).1 ps.1 h.1,
)
  where
    by : (p : Point) → IsPointOf kinds.Span 0 p → Holds a p → IsKept a p
    by (Number v) r k = held_between a v k r
    by (Element i) r k = absurd r
    by (Symbol n) r k = absurd r
kept any [] args (p ∷ points) f ps h = absurd ps
kept any (s ∷ ins) args [] f ps h = absurd ps
kept any ins [] (p ∷ points) f ps h = absurd h
kept any ins (a ∷ args) [] f ps h = absurd h

-- ---- tests

pub le_true : (a b : ℤ) → a ≤ℤ b → int_le a b ≡ true
le_true a b p = by (int_le a b) refl
  where
    by : (t : Bool) → int_le a b ≡ t → t ≡ true
    by true e = refl
    by false e = absurd (omega (arith, ints))

pub both_true : (a b : Bool) → a ≡ true → b ≡ true → (a && b) ≡ true
both_true true b e f = f
both_true false b e f = absurd (never e)
