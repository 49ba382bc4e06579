-- Which information is the narrowest that holds some numbers.
use Rattle.std.specs.Prelude.{◌≡◌, ◌≢◌, ℤ}
use Rattle.std.specs.Int.{int_max, int_min}
use Rattle.prop_intervals.specs.laws.Relations.{IsInRange}
use Rattle.prop_lattice.specs.Points.{Number, Holds}
use Rattle.prop_lattice.specs.Rank.{IsOf}
use Rattle.prop_lattice.specs.declared.info.Info.{Info}
use Rattle.prop_lattice.specs.declared.info.Info.TheVariants.{Span, Contradiction}
use Rattle.prop_lattice.specs.declared.info.Kind.TheVariants as kinds
use Rattle.prop_lattice.specs.declared.span.Span as spans
use Rattle.prop_wide.specs.Distances.{IsDistance, abs_of, abs_back_of}
use Rattle.prop_wide.specs.Extremes.{max_of, max_back_of, min_of, min_back_of}
use Rattle.prop_wide.specs.Quotients.{IsQuotient, IsRemainder, quotient_of, remainder_of}
use Rattle.prop_wide.specs.Quotients.{divisor_of}

-- r leaves each number in range of which P is true, and no number that is left out by a span which
-- has all of those
pub record IsNarrowest (P : ℤ → Type 0) (r : Info) : Type 0 where
  pub holds : (v : ℤ) → IsInRange v → P v → Holds r (Number v)
  pub within : (s : spans.Span) → ((v : ℤ) → IsInRange v → P v → Holds (Span s) (Number v))
      → (v : ℤ) → IsInRange v → Holds r (Number v) → Holds (Span s) (Number v)

-- the information is one of a number, and no contradiction
pub record IsNumber (x : Info) : Type 0 where
  pub of_kind : IsOf kinds.Span 0 x
  pub clear : x ≢ Contradiction

-- v is a number in range that x leaves
pub record Leaves (x : Info) (v : ℤ) : Type 0 where
  pub in_range : IsInRange v
  pub held : Holds x (Number v)

-- w belongs to a number that x leaves
abbrev pub BelongsToOne : (ℤ → ℤ → Type 0) → Info → ℤ → Type 0
BelongsToOne related x w = (u : ℤ) × Leaves x u × related u w

-- w belongs to a number that x leaves and one that y leaves
abbrev pub BelongsToTwo : (ℤ → ℤ → ℤ → Type 0) → Info → Info → ℤ → Type 0
BelongsToTwo related x y w = (u : ℤ) × (v : ℤ) × Leaves x u × Leaves y v × related u v w

-- ---- functions whose answers are the narrowest, of whatever is known of their inputs

abbrev pub OneIsNarrowest : (Info → Info) → (ℤ → ℤ → Type 0) → Type 0
OneIsNarrowest f related = (x : Info) → IsNumber x → IsNarrowest (BelongsToOne related x) (f x)

abbrev pub TwoIsNarrowest : (Info → Info → Info) → (ℤ → ℤ → ℤ → Type 0) → Type 0
TwoIsNarrowest f related =
    (x y : Info) → IsNumber x → IsNumber y → IsNarrowest (BelongsToTwo related x y) (f x y)

abbrev pub MaxIsNarrowest : Type 0
MaxIsNarrowest = TwoIsNarrowest max_of (λ x y z. z ≡ int_max x y)

abbrev pub MaxBackIsNarrowest : Type 0
MaxBackIsNarrowest = TwoIsNarrowest max_back_of (λ z y x. z ≡ int_max x y)

abbrev pub MinIsNarrowest : Type 0
MinIsNarrowest = TwoIsNarrowest min_of (λ x y z. z ≡ int_min x y)

abbrev pub MinBackIsNarrowest : Type 0
MinBackIsNarrowest = TwoIsNarrowest min_back_of (λ z y x. z ≡ int_min x y)

abbrev pub AbsIsNarrowest : Type 0
AbsIsNarrowest = OneIsNarrowest abs_of IsDistance

abbrev pub AbsBackIsNarrowest : Type 0
AbsBackIsNarrowest = TwoIsNarrowest abs_back_of (λ y x v. (v ≡ x) × IsDistance x y)

abbrev pub QuotientIsNarrowest : Type 0
QuotientIsNarrowest = TwoIsNarrowest quotient_of IsQuotient

abbrev pub RemainderIsNarrowest : Type 0
RemainderIsNarrowest = OneIsNarrowest remainder_of IsRemainder

abbrev pub DivisorIsNarrowest : Type 0
DivisorIsNarrowest = TwoIsNarrowest divisor_of (λ r y v. (v ≡ y) × IsRemainder y r)
