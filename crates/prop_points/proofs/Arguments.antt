-- Calls with single points, by the shapes of their inputs and of their output.
use Rattle.std.specs.Prelude.{ℕ, ◌<◌, ℤ, List, [], ◌∷◌}
use Rattle.std.proofs.Common.{rules}
use Rattle.prop_lattice.specs.Points.{Point, Number, Element, IsPointOf}
use Rattle.prop_lattice.specs.Rank.{IsOf}
use Rattle.prop_lattice.specs.declared.elements.Elements as sets
use Rattle.prop_lattice.specs.declared.info.Info.{Info}
use Rattle.prop_lattice.specs.declared.info.Info.TheVariants.{Span, Set}
use Rattle.prop_lattice.specs.declared.info.Kind.TheVariants as kinds
use Rattle.prop_lattice.specs.declared.span.Span as spans
use Rattle.prop_procedures.specs.declared.shape.Kinded.{Kinded}
use Rattle.prop_procedures.specs.declared.shape.Shape.{Shape}
use Rattle.prop_procedures.specs.Rules.{kind_of}
use Rattle.prop_procedures.specs.inner.Places.{AreOf}
use Rattle.prop_intervals.specs.laws.Relations.{IsInRange}
use Rattle.prop_points.specs.Singles.{IsSingle, AreSingle}

-- ---- one argument, and the output

pub number_in : (size : ℕ) (a : Info) (p : Point) (P : Info → Point → Type 0) → IsOf kinds.Span size a
    → IsSingle a p → ((s : spans.Span) (v : ℤ) → IsSingle (Span s) (Number v) → P (Span s) (Number v)) → P a p
number_in size (Span s) (Number v) P k e h = h s v e
number_in size a p P k e h = search rules

pub element_in : (d size : ℕ) (a : Info) (p : Point) (P : Info → Point → Type 0) → IsOf (kinds.Set d) size a
    → IsSingle a p
    → ((s : sets.Elements) (i : ℕ) → i < size → IsSingle (Set s) (Element i) → P (Set s) (Element i)) → P a p
element_in d size (Set s) (Element i) P k e h = h s i (k i e.1) e
element_in d size a p P k e h = search rules

pub number_out : (size : ℕ) (p : Point) (P : Point → Type 0) → IsPointOf kinds.Span size p
    → ((v : ℤ) → IsInRange v → P (Number v)) → P p
number_out size (Number v) P k h = h v k
number_out size p P k h = search rules

pub element_out : (d size : ℕ) (p : Point) (P : Point → Type 0) → IsPointOf (kinds.Set d) size p
    → ((i : ℕ) → i < size → P (Element i)) → P p
element_out d size (Element i) P k h = h i k
element_out d size p P k h = search rules

-- ---- so many arguments

module _ (any : Shape → Kinded) (P : List Info → List Point → Type 0) where
  pub one_in : (s : Shape) (args : List Info) (points : List Point) → AreOf any (s ∷ []) args
      → AreSingle args points
      → ((a : Info) (p : Point) → IsOf (kind_of any s).kind (kind_of any s).size a → IsSingle a p
      → P (a ∷ []) (p ∷ [])) → P args points
  one_in s (a ∷ []) (p ∷ []) o e h = h a p o.0 e.0
  one_in s [] points o e h = absurd o
  one_in s (a ∷ b ∷ rest) points o e h = absurd o.1
  one_in s (a ∷ []) [] o e h = absurd e
  one_in s (a ∷ []) (p ∷ q ∷ rest) o e h = absurd e.1

  pub two_in : (s t : Shape) (args : List Info) (points : List Point) → AreOf any (s ∷ t ∷ []) args
      → AreSingle args points
      → ((a b : Info) (p q : Point) → IsOf (kind_of any s).kind (kind_of any s).size a
      → IsOf (kind_of any t).kind (kind_of any t).size b → IsSingle a p → IsSingle b q
      → P (a ∷ b ∷ []) (p ∷ q ∷ [])) → P args points
  two_in s t (a ∷ b ∷ []) (p ∷ q ∷ []) o e h = h a b p q o.0 o.1.0 e.0 e.1.0
  two_in s t [] points o e h = absurd o
  two_in s t (a ∷ []) points o e h = absurd o.1
  two_in s t (a ∷ b ∷ c ∷ rest) points o e h = absurd o.1.1
  two_in s t (a ∷ b ∷ []) [] o e h = absurd e
  two_in s t (a ∷ b ∷ []) (p ∷ []) o e h = absurd e.1
  two_in s t (a ∷ b ∷ []) (p ∷ q ∷ r ∷ rest) o e h = absurd e.1.1

  pub three_in : (s t u : Shape) (args : List Info) (points : List Point) → AreOf any (s ∷ t ∷ u ∷ []) args
      → AreSingle args points
      → ((a b c : Info) (p q r : Point) → IsOf (kind_of any s).kind (kind_of any s).size a
      → IsSingle a p → IsSingle b q → IsSingle c r → P (a ∷ b ∷ c ∷ []) (p ∷ q ∷ r ∷ []))
      → P args points
  three_in s t u (a ∷ b ∷ c ∷ []) (p ∷ q ∷ r ∷ []) o e h = h a b c p q r o.0 e.0 e.1.0 e.1.1.0
  three_in s t u [] points o e h = absurd o
  three_in s t u (a ∷ []) points o e h = absurd o.1
  three_in s t u (a ∷ b ∷ []) points o e h = absurd o.1.1
  three_in s t u (a ∷ b ∷ c ∷ d ∷ rest) points o e h = absurd o.1.1.1
  three_in s t u (a ∷ b ∷ c ∷ []) [] o e h = absurd e
  three_in s t u (a ∷ b ∷ c ∷ []) (p ∷ []) o e h = absurd e.1
  three_in s t u (a ∷ b ∷ c ∷ []) (p ∷ q ∷ []) o e h = absurd e.1.1
  three_in s t u (a ∷ b ∷ c ∷ []) (p ∷ q ∷ r ∷ x ∷ rest) o e h = absurd e.1.1.1
