-- What is known of squares of spans.
use Rattle.std.specs.Prelude.{ℕ, ℤ, ◌≡◌, ◌⊎◌, pos, ◌*ℤ◌, ◌≤ℤ◌, ◌<ℤ◌, Bool, true, false, int_le}
use Rattle.std.specs.Prelude.{◌&&◌, if◌then◌else◌}
use Rattle.std.specs.Int.{int_max, int_min}
use Rattle.std.proofs.Common.{arith, inl, inr, refl, sym, ◌∙◌}
use Rattle.std.proofs.lemmas.Int.{ints, clamps, by_lt_z}
use Rattle.prop_lattice.specs.Ends.{AreEnds}
use Rattle.prop_lattice.specs.Order.{Below}
use Rattle.prop_lattice.specs.Points.{Number, Holds}
use Rattle.prop_lattice.specs.Rank.{IsOf}
use Rattle.prop_lattice.specs.declared.span.Span as spans
use Rattle.prop_lattice.specs.declared.info.Info.TheVariants.{Span}
use Rattle.prop_lattice.specs.declared.info.Kind.TheVariants as kinds
use Rattle.prop_intervals.specs.laws.ClipLaws.{clip_below, clip_of_span, clip_holds}
use Rattle.prop_intervals.specs.Narrowest.{IsNarrowest}
use Rattle.prop_intervals.specs.laws.NarrowestLaws.{clip_narrowest}
use Rattle.prop_intervals.specs.laws.QuotientLaws.{product-le, product-ge}
use Rattle.prop_intervals.specs.Relations.{IsSquare, BelongsToOne}
use Rattle.prop_intervals.specs.laws.Relations.{IsInRange}
use Rattle.prop_intervals.specs.Spans.{holds_zero}
use Rattle.prop_intervals.specs.inner.Parts.{least_square, greatest_square, square_of}
use lib.IntN.{*ℤ_comm}

-- ---- where zero lies

pub zero_in : (x : spans.Span) → holds_zero x ≡ true → Holds (Span x) (Number (pos 0))
zero_in x e = by (int_le x.lo (pos 0)) refl (int_le (pos 0) x.hi) refl
  where
    by : (s : Bool) → int_le x.lo (pos 0) ≡ s → (t : Bool) → int_le (pos 0) x.hi ≡ t
        → Holds (Span x) (Number (pos 0))
    by true f true g = (omega (arith, ints), omega (arith, ints))
    by true f false g = absurd (clash (sym (λ i. f i && g i) ∙ e))
      where
        clash : false ≡ true → ⊥
        clash p = cc
    by false f t g = absurd (clash (sym (λ i. f i && int_le (pos 0) x.hi) ∙ e))
      where
        clash : false ≡ true → ⊥
        clash p = cc

pub zero_out : (x : spans.Span) → holds_zero x ≡ false → (pos 0 <ℤ x.lo) ⊎ (x.hi <ℤ pos 0)
zero_out x e = by (int_le x.lo (pos 0)) refl (int_le (pos 0) x.hi) refl
  where
    by : (s : Bool) → int_le x.lo (pos 0) ≡ s → (t : Bool) → int_le (pos 0) x.hi ≡ t
        → (pos 0 <ℤ x.lo) ⊎ (x.hi <ℤ pos 0)
    by false f t g = inl (omega (arith, ints))
    by true f false g = inr (omega (arith, ints))
    by true f true g = absurd (clash (sym (λ i. f i && g i) ∙ e))
      where
        clash : true ≡ false → ⊥
        clash p = cc

-- what holds no zero and is not above it is below it
pub below_zero : (x : spans.Span) → holds_zero x ≡ false → x.lo ≤ℤ pos 0 → x.hi <ℤ pos 0
below_zero x e h = elim (zero_out x e) [ inl l ↦ absurd (omega (arith, ints)) | inr l ↦ l ]

pub zero_from_out : (x : spans.Span) → (pos 0 <ℤ x.lo) ⊎ (x.hi <ℤ pos 0) → holds_zero x ≡ false
zero_from_out x l = by (holds_zero x) refl l
  where
    by : (t : Bool) → holds_zero x ≡ t → (pos 0 <ℤ x.lo) ⊎ (x.hi <ℤ pos 0) → t ≡ false
    by false e l = refl
    by true e (inl l) = let h = zero_in x e in absurd (omega (arith, ints))
    by true e (inr l) = let h = zero_in x e in absurd (omega (arith, ints))

-- ---- squares

-- above zero a square grows with its number
square_up : (a b : ℤ) → pos 0 ≤ℤ a → a ≤ℤ b → (a *ℤ a) ≤ℤ (b *ℤ b)
square_up a b p q = through (a *ℤ a) (b *ℤ a) (a *ℤ b) (b *ℤ b) (product-le a b a q p) (*ℤ_comm b a)
    (product-le a b b q (omega (arith, ints)))
  where
    through : (s t u w : ℤ) → s ≤ℤ t → t ≡ u → u ≤ℤ w → s ≤ℤ w
    through s t u w h e i = omega (arith, ints)

-- and below zero it falls
square_down : (a b : ℤ) → a ≤ℤ b → b ≤ℤ pos 0 → (b *ℤ b) ≤ℤ (a *ℤ a)
square_down a b p q = through (b *ℤ b) (a *ℤ b) (b *ℤ a) (a *ℤ a) (product-ge a b b p q)
    (*ℤ_comm a b) (product-ge a b a p (omega (arith, ints)))
  where
    through : (s t u w : ℤ) → s ≤ℤ t → t ≡ u → u ≤ℤ w → s ≤ℤ w
    through s t u w h e i = omega (arith, ints)

square_least : (v : ℤ) → pos 0 ≤ℤ (v *ℤ v)
square_least v = by_lt_z v (pos 0)
    (λ l. square_down v (pos 0) (omega (arith, ints)) (omega (arith, ints)))
    (λ l. square_up (pos 0) v (omega (arith, ints)) l)

-- a square of a number of x lies between the least and the greatest
pub square_within : (x : spans.Span) (v : ℤ) → Holds (Span x) (Number v)
    → (least_square x ≤ℤ (v *ℤ v)) × ((v *ℤ v) ≤ℤ greatest_square x)
square_within x v h = (low (holds_zero x) refl, high)
  where
    low : (t : Bool) → holds_zero x ≡ t
        → (if t then pos 0 else int_min (x.lo *ℤ x.lo) (x.hi *ℤ x.hi)) ≤ℤ (v *ℤ v)
    low true e = square_least v
    low false e = elim (zero_out x e) [
      | inl l ↦ under_first (x.lo *ℤ x.lo) (x.hi *ℤ x.hi) (v *ℤ v)
          (square_up x.lo v (omega (arith, ints)) h.0)
      | inr l ↦ under_last (x.lo *ℤ x.lo) (x.hi *ℤ x.hi) (v *ℤ v)
          (square_down v x.hi h.1 (omega (arith, ints)))
    ]
      where
        under_first : (a b w : ℤ) → a ≤ℤ w → int_min a b ≤ℤ w
        under_first a b w h = omega (arith, ints, clamps)

        under_last : (a b w : ℤ) → b ≤ℤ w → int_min a b ≤ℤ w
        under_last a b w h = omega (arith, ints, clamps)

    over_first : (a b w : ℤ) → w ≤ℤ a → w ≤ℤ int_max a b
    over_first a b w h = omega (arith, ints, clamps)

    over_last : (a b w : ℤ) → w ≤ℤ b → w ≤ℤ int_max a b
    over_last a b w h = omega (arith, ints, clamps)

    high : (v *ℤ v) ≤ℤ int_max (x.lo *ℤ x.lo) (x.hi *ℤ x.hi)
    high = by_lt_z v (pos 0) (λ l.
        over_first (x.lo *ℤ x.lo) (x.hi *ℤ x.hi) (v *ℤ v)
        (square_down x.lo v h.0 (omega (arith, ints))))
        (λ l. over_last (x.lo *ℤ x.lo) (x.hi *ℤ x.hi) (v *ℤ v) (square_up v x.hi l h.1))

least_square_reached : (x : spans.Span) → BelongsToOne IsSquare x (least_square x)
least_square_reached x = by (holds_zero x) refl
  where
    by : (t : Bool) → holds_zero x ≡ t
        → BelongsToOne IsSquare x (if t then pos 0 else int_min (x.lo *ℤ x.lo) (x.hi *ℤ x.hi))
    by true e = (pos 0, zero_in x e, refl)
    by false e = by_lt_z (x.hi *ℤ x.hi) (x.lo *ℤ x.lo)
        (λ l. (x.hi, (x.ordered, omega (arith, ints)), last (x.lo *ℤ x.lo) (x.hi *ℤ x.hi) l))
        (λ l. (x.lo, (omega (arith, ints), x.ordered), first (x.lo *ℤ x.lo) (x.hi *ℤ x.hi) l))
      where
        last : (a b : ℤ) → b <ℤ a → int_min a b ≡ b
        last a b l = omega (arith, ints, clamps)

        first : (a b : ℤ) → a ≤ℤ b → int_min a b ≡ a
        first a b l = omega (arith, ints, clamps)

greatest_square_reached : (x : spans.Span) → BelongsToOne IsSquare x (greatest_square x)
greatest_square_reached x = by_lt_z (x.hi *ℤ x.hi) (x.lo *ℤ x.lo)
    (λ l. (x.lo, (omega (arith, ints), x.ordered), first (x.lo *ℤ x.lo) (x.hi *ℤ x.hi) l))
    (λ l. (x.hi, (x.ordered, omega (arith, ints)), last (x.lo *ℤ x.lo) (x.hi *ℤ x.hi) l))
  where
    first : (a b : ℤ) → b <ℤ a → int_max a b ≡ a
    first a b l = omega (arith, ints, clamps)

    last : (a b : ℤ) → a ≤ℤ b → int_max a b ≡ b
    last a b l = omega (arith, ints, clamps)

pub square_monotone : (x x' : spans.Span) → Below (Span x) (Span x')
    → Below (square_of x) (square_of x')
square_monotone x x' p =
    let least = least_square_reached x' in
    let greatest = greatest_square_reached x' in
    clip_below (least_square x) (greatest_square x) (least_square x') (greatest_square x')
    (rw least.2 (square_within x least.0 (inside least.0 least.1)).0)
    (rw greatest.2 (square_within x greatest.0 (inside greatest.0 greatest.1)).1)
  where
    inside : (v : ℤ) → Holds (Span x') (Number v) → Holds (Span x) (Number v)
    inside v h = (omega (arith, ints), omega (arith, ints))

pub square_kind : (size : ℕ) (x : spans.Span) → IsOf kinds.Span size (square_of x)
square_kind size x = clip_of_span size (least_square x) (greatest_square x)

pub square_sound : (x : spans.Span) (v w : ℤ) → Holds (Span x) (Number v) → IsInRange w
    → IsSquare v w → Holds (square_of x) (Number w)
square_sound x v w p r e =
    let within = square_within x v p in
    clip_holds (least_square x) (greatest_square x) w (rw e within.0) (rw e within.1) r.0 r.1

pub square_narrowest : (x : spans.Span) → AreEnds (least_square x) (greatest_square x)
    → IsNarrowest (BelongsToOne IsSquare x) (square_of x)
square_narrowest x e = clip_narrowest (BelongsToOne IsSquare x) (least_square x) (greatest_square x)
    e.0 e.2 (least_square_reached x) (greatest_square_reached x)
    (λ w p. let within = square_within x p.0 p.1 in (rw p.2 within.0, rw p.2 within.1))
