-- What is known of products of spans.
use Rattle.std.specs.Prelude.{ℕ, ℤ, ◌≡◌, ◌⊎◌, pos, neg_ℤ, ◌+ℤ◌, ◌-ℤ◌, ◌*ℤ◌, ◌≤ℤ◌, ◌<ℤ◌}
use Rattle.std.specs.Int.{int_max, int_min}
use Rattle.std.proofs.Common.{arith, inl, inr, ◌∙◌}
use Rattle.std.proofs.lemmas.Int.{ints, clamps, by_lt_z}
use Rattle.prop_lattice.specs.Ends.{AreEnds}
use Rattle.prop_lattice.specs.Order.{Below}
use Rattle.prop_lattice.specs.Points.{Number, Holds}
use Rattle.prop_lattice.specs.Rank.{IsOf}
use Rattle.prop_lattice.specs.declared.span.Span as spans
use Rattle.prop_lattice.specs.declared.info.Info.TheVariants.{Span}
use Rattle.prop_lattice.specs.declared.info.Kind.TheVariants as kinds
use Rattle.prop_intervals.specs.laws.ClipLaws.{clip_below, clip_of_span, clip_holds}
use Rattle.prop_intervals.specs.Narrowest.{IsNarrowest}
use Rattle.prop_intervals.specs.laws.NarrowestLaws.{clip_narrowest}
use Rattle.prop_intervals.specs.Quotients.{int_div_ceil}
use Rattle.prop_intervals.specs.inner.Parts.{int_div_floor}
use Rattle.prop_intervals.specs.laws.QuotientLaws.{product-add, product-between, floor-parts}
use Rattle.prop_intervals.specs.laws.QuotientLaws.{floor-lt, floor-below, ceil-parts, lt-ceil}
use Rattle.prop_intervals.specs.laws.QuotientLaws.{ceil-below}
use Rattle.prop_intervals.specs.Relations.{IsProduct, BelongsToTwo}
use Rattle.prop_intervals.specs.laws.Relations.{IsInRange}
use Rattle.prop_intervals.specs.Spans.{least_product, greatest_product, product_of}
use lib.IntN.{*ℤ_comm}

-- ---- the four products of ends

-- a product of numbers of both lies between the least and the greatest
pub product_within : (x y : spans.Span) (u v : ℤ) → Holds (Span x) (Number u)
    → Holds (Span y) (Number v) → (least_product x y ≤ℤ (u *ℤ v))
    × ((u *ℤ v) ≤ℤ greatest_product x y)
product_within x y u v p q =
    let across = product-between u y.lo y.hi v q.0 q.1 in
    let low = product-between y.lo x.lo x.hi u p.0 p.1 in
    let high = product-between y.hi x.lo x.hi u p.0 p.1 in (
      least (x.lo *ℤ y.lo) (x.lo *ℤ y.hi) (x.hi *ℤ y.lo) (x.hi *ℤ y.hi) (u *ℤ y.lo) (u *ℤ y.hi)
          (u *ℤ v) across.0 (rw (*ℤ_comm x.lo y.lo, *ℤ_comm x.hi y.lo, *ℤ_comm u y.lo) low.0)
          (rw (*ℤ_comm x.lo y.hi, *ℤ_comm x.hi y.hi, *ℤ_comm u y.hi) high.0),
      greatest (x.lo *ℤ y.lo) (x.lo *ℤ y.hi) (x.hi *ℤ y.lo) (x.hi *ℤ y.hi) (u *ℤ y.lo) (u *ℤ y.hi)
          (u *ℤ v) across.1 (rw (*ℤ_comm x.lo y.lo, *ℤ_comm x.hi y.lo, *ℤ_comm u y.lo) low.1)
          (rw (*ℤ_comm x.lo y.hi, *ℤ_comm x.hi y.hi, *ℤ_comm u y.hi) high.1),
    )
  where
    least : (a b c d e f w : ℤ) → int_min e f ≤ℤ w → int_min a c ≤ℤ e → int_min b d ≤ℤ f
        → int_min (int_min a b) (int_min c d) ≤ℤ w
    least a b c d e f w h i j = omega (arith, ints, clamps)

    greatest : (a b c d e f w : ℤ) → w ≤ℤ int_max e f → e ≤ℤ int_max a c → f ≤ℤ int_max b d
        → w ≤ℤ int_max (int_max a b) (int_max c d)
    greatest a b c d e f w h i j = omega (arith, ints, clamps)

lesser : (a b : ℤ) → (int_min a b ≡ a) ⊎ (int_min a b ≡ b)
lesser a b = by_lt_z b a (λ l. inr (omega (arith, ints, clamps)))
    (λ l. inl (omega (arith, ints, clamps)))

greater : (a b : ℤ) → (int_max a b ≡ a) ⊎ (int_max a b ≡ b)
greater a b = by_lt_z b a (λ l. inl (omega (arith, ints, clamps)))
    (λ l. inr (omega (arith, ints, clamps)))

-- some product of ends is this number
abbrev IsOfEnds : spans.Span → spans.Span → ℤ → Type 0
IsOfEnds x y m = (u : ℤ) × (v : ℤ) × Holds (Span x) (Number u) × Holds (Span y) (Number v)
    × (m ≡ u *ℤ v)

first_end : (s : spans.Span) → Holds (Span s) (Number s.lo)
first_end s = (omega (arith, ints), s.ordered)

last_end : (s : spans.Span) → Holds (Span s) (Number s.hi)
last_end s = (s.ordered, omega (arith, ints))

least_reached : (x y : spans.Span) → IsOfEnds x y (least_product x y)
least_reached x y = by (lesser (int_min (x.lo *ℤ y.lo) (x.lo *ℤ y.hi))
    (int_min (x.hi *ℤ y.lo) (x.hi *ℤ y.hi))) (lesser (x.lo *ℤ y.lo) (x.lo *ℤ y.hi))
    (lesser (x.hi *ℤ y.lo) (x.hi *ℤ y.hi))
  where
    by : {m p q : ℤ} → (m ≡ p) ⊎ (m ≡ q) → (p ≡ x.lo *ℤ y.lo) ⊎ (p ≡ x.lo *ℤ y.hi)
        → (q ≡ x.hi *ℤ y.lo) ⊎ (q ≡ x.hi *ℤ y.hi) → IsOfEnds x y m
    by (inl e) (inl f) g = (x.lo, y.lo, first_end x, first_end y, e ∙ f)
    by (inl e) (inr f) g = (x.lo, y.hi, first_end x, last_end y, e ∙ f)
    by (inr e) f (inl g) = (x.hi, y.lo, last_end x, first_end y, e ∙ g)
    by (inr e) f (inr g) = (x.hi, y.hi, last_end x, last_end y, e ∙ g)

greatest_reached : (x y : spans.Span) → IsOfEnds x y (greatest_product x y)
greatest_reached x y = by (greater (int_max (x.lo *ℤ y.lo) (x.lo *ℤ y.hi))
    (int_max (x.hi *ℤ y.lo) (x.hi *ℤ y.hi))) (greater (x.lo *ℤ y.lo) (x.lo *ℤ y.hi))
    (greater (x.hi *ℤ y.lo) (x.hi *ℤ y.hi))
  where
    by : {m p q : ℤ} → (m ≡ p) ⊎ (m ≡ q) → (p ≡ x.lo *ℤ y.lo) ⊎ (p ≡ x.lo *ℤ y.hi)
        → (q ≡ x.hi *ℤ y.lo) ⊎ (q ≡ x.hi *ℤ y.hi) → IsOfEnds x y m
    by (inl e) (inl f) g = (x.lo, y.lo, first_end x, first_end y, e ∙ f)
    by (inl e) (inr f) g = (x.lo, y.hi, first_end x, last_end y, e ∙ f)
    by (inr e) f (inl g) = (x.hi, y.lo, last_end x, first_end y, e ∙ g)
    by (inr e) f (inr g) = (x.hi, y.hi, last_end x, last_end y, e ∙ g)

-- ---- scaled products

-- a scale times the next number and times the one before
scale_after : (k z : ℤ) → (k *ℤ (z +ℤ pos 1)) ≡ ((z *ℤ k) +ℤ k)
scale_after k z = *ℤ_comm k (z +ℤ pos 1) ∙ product-add z (pos 1) k
    ∙ (λ i. (z *ℤ k) +ℤ one_times k i)
  where
    one_times : (k : ℤ) → (pos 1 *ℤ k) ≡ k
    one_times k = omega (arith, ints)

scale_before : (k z : ℤ) → (k *ℤ (z -ℤ pos 1)) ≡ ((z *ℤ k) -ℤ k)
scale_before k z = *ℤ_comm k (z -ℤ pos 1) ∙ product-add z (neg_ℤ (pos 1)) k
    ∙ (λ i. (z *ℤ k) +ℤ minus_times k i)
  where
    minus_times : (k : ℤ) → (neg_ℤ (pos 1) *ℤ k) ≡ neg_ℤ k
    minus_times k = omega (arith, ints)

pub product_monotone : (x y x' y' : spans.Span) (k : ℤ) → pos 1 ≤ℤ k → Below (Span x) (Span x')
    → Below (Span y) (Span y') → Below (product_of x y k) (product_of x' y' k)
product_monotone x y x' y' k s p q =
    let least = least_reached x' y' in
    let greatest = greatest_reached x' y' in
    let low = product_within x y least.0 least.1 (inside x x' p least.0 least.2)
    (inside y y' q least.1 least.3) in
    let high = product_within x y greatest.0 greatest.1 (inside x x' p greatest.0 greatest.2)
    (inside y y' q greatest.1 greatest.3) in
    clip_below _ _ _ _ (floor-below (least_product x y) (least_product x' y') k
    (omega (arith, ints)) (rw least.4 low.0))
    (ceil-below (greatest_product x' y') (greatest_product x y) k (omega (arith, ints))
    (rw greatest.4 high.1))
  where
    inside : (s t : spans.Span) → Below (Span s) (Span t) → (v : ℤ) → Holds (Span t) (Number v)
        → Holds (Span s) (Number v)
    inside s t b v h = (omega (arith, ints), omega (arith, ints))

pub product_kind : (size : ℕ) (x y : spans.Span) (k : ℤ) → IsOf kinds.Span size (product_of x y k)
product_kind size x y k = clip_of_span size (int_div_floor (least_product x y) k)
    (int_div_ceil (greatest_product x y) k)

-- what a product's unit holds lies between the rounded ends
between_rounded : (x y : spans.Span) (k u v z : ℤ) → pos 1 ≤ℤ k → Holds (Span x) (Number u)
    → Holds (Span y) (Number v) → IsProduct k u v z
    → (int_div_floor (least_product x y) k ≤ℤ z) × (z ≤ℤ int_div_ceil (greatest_product x y) k)
between_rounded x y k u v z s p q r =
    let within = product_within x y u v p q in (
      before (int_div_floor (least_product x y) k) z
          (floor-lt (least_product x y) k (z +ℤ pos 1) (omega (arith, ints))
          (rw (*ℤ_comm (z +ℤ pos 1) k)
          (under (least_product x y) (u *ℤ v) (k *ℤ (z +ℤ pos 1)) within.0 r.1))),
      after (int_div_ceil (greatest_product x y) k) z
          (lt-ceil (greatest_product x y) k (z -ℤ pos 1) (omega (arith, ints))
          (rw (*ℤ_comm (z -ℤ pos 1) k)
          (over (k *ℤ (z -ℤ pos 1)) (u *ℤ v) (greatest_product x y) r.0 within.1))),
    )
  where
    before : (f z : ℤ) → f <ℤ (z +ℤ pos 1) → f ≤ℤ z
    before f z h = omega (arith, ints)

    after : (c z : ℤ) → (z -ℤ pos 1) <ℤ c → z ≤ℤ c
    after c z h = omega (arith, ints)

    under : (m w t : ℤ) → m ≤ℤ w → w <ℤ t → m <ℤ t
    under m w t h i = omega (arith, ints)

    over : (t w n : ℤ) → t <ℤ w → w ≤ℤ n → t <ℤ n
    over t w n h i = omega (arith, ints)

pub product_sound : (x y : spans.Span) (k u v z : ℤ) → pos 1 ≤ℤ k → Holds (Span x) (Number u)
    → Holds (Span y) (Number v) → IsInRange z → IsProduct k u v z
    → Holds (product_of x y k) (Number z)
product_sound x y k u v z s p q r e =
    let rounded = between_rounded x y k u v z s p q e in
    clip_holds (int_div_floor (least_product x y) k) (int_div_ceil (greatest_product x y) k) z
    rounded.0 rounded.1 r.0 r.1

pub product_narrowest : (x y : spans.Span) (k : ℤ) → pos 1 ≤ℤ k
    → AreEnds (int_div_floor (least_product x y) k) (int_div_ceil (greatest_product x y) k)
    → IsNarrowest (BelongsToTwo (IsProduct k) x y) (product_of x y k)
product_narrowest x y k s e =
    let least = least_reached x y in
    let greatest = greatest_reached x y in
    clip_narrowest (BelongsToTwo (IsProduct k) x y) (int_div_floor (least_product x y) k)
    (int_div_ceil (greatest_product x y) k) e.0 e.2
    (least.0, least.1, least.2, least.3, rw (← least.4) (floor_belongs (least_product x y))) (
      greatest.0,
      greatest.1,
      greatest.2,
      greatest.3,
      rw (← greatest.4) (ceil_belongs (greatest_product x y)),
    )
    (λ z p. between_rounded x y k p.0 p.1 z s p.2 p.3 p.4)
  where
    floor_belongs : (m : ℤ) → ((k *ℤ (int_div_floor m k -ℤ pos 1)) <ℤ m)
        × (m <ℤ (k *ℤ (int_div_floor m k +ℤ pos 1)))
    floor_belongs m = let parts =
        floor-parts m k (omega (arith, ints))
        in rw (scale_before k (int_div_floor m k), scale_after k (int_div_floor m k))
        (around (int_div_floor m k *ℤ k) m parts.0 parts.1)
      where
        around : (t m : ℤ) → t ≤ℤ m → m <ℤ (t +ℤ k) → ((t -ℤ k) <ℤ m) × (m <ℤ (t +ℤ k))
        around t m h i = (omega (arith, ints), omega (arith, ints))

    ceil_belongs : (m : ℤ) → ((k *ℤ (int_div_ceil m k -ℤ pos 1)) <ℤ m)
        × (m <ℤ (k *ℤ (int_div_ceil m k +ℤ pos 1)))
    ceil_belongs m = let parts = ceil-parts m k (omega (arith, ints))
        in rw (scale_before k (int_div_ceil m k), scale_after k (int_div_ceil m k))
        (around (int_div_ceil m k *ℤ k) m parts.0 parts.1)
      where
        around : (t m : ℤ) → m ≤ℤ t → t <ℤ (m +ℤ k) → ((t -ℤ k) <ℤ m) × (m <ℤ (t +ℤ k))
        around t m h i = (omega (arith, ints), omega (arith, ints))
