-- What is known of quotients of spans.
use Rattle.std.specs.Prelude.{ℕ, ℤ, ◌≡◌, pos, neg_ℤ, ◌+ℤ◌, ◌-ℤ◌, ◌*ℤ◌, ◌≤ℤ◌, ◌<ℤ◌, Bool, true}
use Rattle.std.specs.Prelude.{false, int_lt, int_le, if◌then◌else◌}
use Rattle.std.specs.Int.{int_max, int_min}
use Rattle.std.proofs.Common.{arith, ap, subst, inl, inr, refl, sym, ◌∙◌}
use Rattle.std.proofs.lemmas.Int.{ints, clamps, by_lt_z}
use Rattle.prop_lattice.specs.Order.{Below}
use Rattle.prop_lattice.specs.Points.{Number, Holds}
use Rattle.prop_lattice.specs.Rank.{IsOf}
use Rattle.prop_lattice.specs.declared.span.Span as spans
use Rattle.prop_lattice.specs.declared.info.Info.TheVariants.{Nothing, Span}
use Rattle.prop_lattice.specs.declared.info.Kind.TheVariants as kinds
use Rattle.prop_intervals.specs.laws.ClipLaws.{clip_below, clip_of_span, clip_holds}
use Rattle.prop_intervals.specs.Quotients.{int_div_ceil}
use Rattle.prop_intervals.specs.inner.Parts.{int_div_floor}
use Rattle.prop_intervals.specs.laws.QuotientLaws.{product-le, product-ge, product-between}
use Rattle.prop_intervals.specs.laws.QuotientLaws.{floor-parts, le-floor, ceil-parts, ceil-le}
use Rattle.prop_intervals.specs.laws.QuotientLaws.{neg-product}
use Rattle.prop_intervals.specs.Relations.{IsProduct}
use Rattle.prop_intervals.specs.laws.Relations.{IsInRange}
use Rattle.prop_intervals.specs.Spans.{holds_zero}
use Rattle.prop_intervals.specs.inner.Parts.{least_dividend, greatest_dividend, least_factor}
use Rattle.prop_intervals.specs.Spans.{factors_of, quotient_of}
use Rattle.prop_intervals.specs.inner.Parts.{greatest_factor}
use Rattle.prop_intervals.specs.laws.SquareLaws.{zero_out, zero_from_out}
use lib.IntN.{*ℤ_comm}

-- ---- the cases of a quotient

pub quotient_at_zero : (z y : spans.Span) (k : ℤ) → holds_zero y ≡ true
    → Nothing ≡ quotient_of z y k
quotient_at_zero z y k e = sym
    (ap (λ t. if t then Nothing else (if int_lt (pos 0) y.lo then factors_of (least_dividend z k)
    (greatest_dividend z k) y.lo y.hi else factors_of (neg_ℤ (greatest_dividend z k))
    (neg_ℤ (least_dividend z k)) (neg_ℤ y.hi) (neg_ℤ y.lo))) e)

pub quotient_above : (z y : spans.Span) (k : ℤ) → holds_zero y ≡ false → pos 0 <ℤ y.lo
    → factors_of (least_dividend z k) (greatest_dividend z k) y.lo y.hi ≡ quotient_of z y k
quotient_above z y k e h = by (int_lt (pos 0) y.lo) refl (holds_zero y) e
  where
    by : (t : Bool) → int_lt (pos 0) y.lo ≡ t → (s : Bool) → s ≡ false
        → factors_of (least_dividend z k) (greatest_dividend z k) y.lo
        y.hi ≡ (if s then Nothing else (if t then factors_of (least_dividend z k)
        (greatest_dividend z k) y.lo y.hi else factors_of (neg_ℤ (greatest_dividend z k))
        (neg_ℤ (least_dividend z k)) (neg_ℤ y.hi) (neg_ℤ y.lo)))
    by true f false g = refl
    by true f true g = absurd cc
    by false f s g = absurd (omega (arith, ints))

pub quotient_below : (z y : spans.Span) (k : ℤ) → holds_zero y ≡ false → y.lo ≤ℤ pos 0
    → factors_of (neg_ℤ (greatest_dividend z k)) (neg_ℤ (least_dividend z k)) (neg_ℤ y.hi)
    (neg_ℤ y.lo) ≡ quotient_of z y k
quotient_below z y k e h = by (int_lt (pos 0) y.lo) refl (holds_zero y) e
  where
    by : (t : Bool) → int_lt (pos 0) y.lo ≡ t → (s : Bool) → s ≡ false
        → factors_of (neg_ℤ (greatest_dividend z k)) (neg_ℤ (least_dividend z k)) (neg_ℤ y.hi)
        (neg_ℤ y.lo) ≡ (if s then Nothing
        else (if t then factors_of (least_dividend z k) (greatest_dividend z k) y.lo y.hi
        else factors_of (neg_ℤ (greatest_dividend z k)) (neg_ℤ (least_dividend z k)) (neg_ℤ y.hi)
        (neg_ℤ y.lo)))
    by false f false g = refl
    by false f true g = absurd cc
    by true f s g = absurd (omega (arith, ints))

-- ---- the least and the greatest factor

-- above zero a product grows with its other factor, and below zero it falls
rising : (x lo hi : ℤ) → pos 0 ≤ℤ x → lo ≤ℤ hi → (x *ℤ lo) ≤ℤ (x *ℤ hi)
rising x lo hi p q = rw (*ℤ_comm x lo, *ℤ_comm x hi) (product-le lo hi x q p)

falling : (x lo hi : ℤ) → x ≤ℤ pos 0 → lo ≤ℤ hi → (x *ℤ hi) ≤ℤ (x *ℤ lo)
falling x lo hi p q = rw (*ℤ_comm x lo, *ℤ_comm x hi) (product-ge lo hi x q p)

nothing_times : (d : ℤ) → (pos 0 *ℤ d) ≡ pos 0
nothing_times d = omega (arith, ints)

not_below : (x d : ℤ) → pos 0 ≤ℤ x → pos 0 ≤ℤ d → pos 0 ≤ℤ (x *ℤ d)
not_below x d p q = over (pos 0 *ℤ d) (x *ℤ d) (nothing_times d) (product-le (pos 0) x d p q)
  where
    over : (s t : ℤ) → s ≡ pos 0 → s ≤ℤ t → pos 0 ≤ℤ t
    over s t e h = omega (arith, ints)

not_above : (x d : ℤ) → x ≤ℤ pos 0 → pos 0 ≤ℤ d → (x *ℤ d) ≤ℤ pos 0
not_above x d p q = under (x *ℤ d) (pos 0 *ℤ d) (product-le x (pos 0) d p q) (nothing_times d)
  where
    under : (s t : ℤ) → s ≤ℤ t → t ≡ pos 0 → s ≤ℤ pos 0
    under s t h e = omega (arith, ints)

pub least_factor-le : (a lo hi x : ℤ) → pos 0 <ℤ lo → lo ≤ℤ hi → a ≤ℤ int_max (x *ℤ lo) (x *ℤ hi)
    → least_factor a lo hi ≤ℤ x
least_factor-le a lo hi x p q h = by (int_lt (pos 0) a) refl
  where
    by : (t : Bool) → int_lt (pos 0) a ≡ t
        → (if t then int_div_ceil a hi else int_div_ceil a lo) ≤ℤ x
    by true e = ceil-le a hi x (omega (arith, ints))
        (by_lt_z x (pos 0) (λ l. absurd
        (none a (x *ℤ lo) (x *ℤ hi) h (not_above x lo (omega (arith, ints)) (omega (arith, ints)))
        (not_above x hi (omega (arith, ints)) (omega (arith, ints))) (omega (arith, ints))))
        (λ l. last a (x *ℤ lo) (x *ℤ hi) h (rising x lo hi l q)))
      where
        none : (a s t : ℤ) → a ≤ℤ int_max s t → s ≤ℤ pos 0 → t ≤ℤ pos 0 → pos 0 <ℤ a → ⊥
        none a s t h i j k = omega (arith, ints, clamps)

        last : (a s t : ℤ) → a ≤ℤ int_max s t → s ≤ℤ t → a ≤ℤ t
        last a s t h i = omega (arith, ints, clamps)
    by false e = ceil-le a lo x p
        (by_lt_z x (pos 0) (λ l. first a (x *ℤ lo) (x *ℤ hi) h
        (falling x lo hi (omega (arith, ints)) q))
        (λ l. above a (x *ℤ lo) (not_below x lo l (omega (arith, ints))) (omega (arith, ints))))
      where
        first : (a s t : ℤ) → a ≤ℤ int_max s t → t ≤ℤ s → a ≤ℤ s
        first a s t h i = omega (arith, ints, clamps)

        above : (a s : ℤ) → pos 0 ≤ℤ s → a ≤ℤ pos 0 → a ≤ℤ s
        above a s h i = omega (arith, ints)

pub least_factor-reaches : (a lo hi : ℤ) → pos 0 <ℤ lo → lo ≤ℤ hi
    → a ≤ℤ int_max (least_factor a lo hi *ℤ lo) (least_factor a lo hi *ℤ hi)
least_factor-reaches a lo hi p q =
    by (int_lt (pos 0) a) (int_div_ceil a hi) (int_div_ceil a lo)
    (ceil-parts a hi (omega (arith, ints))).0 (ceil-parts a lo p).0
  where
    by : (t : Bool) (s r : ℤ) → a ≤ℤ (s *ℤ hi) → a ≤ℤ (r *ℤ lo)
        → a ≤ℤ int_max ((if t then s else r) *ℤ lo) ((if t then s else r) *ℤ hi)
    by true s r h i = over (s *ℤ lo) (s *ℤ hi) h
      where
        over : (m n : ℤ) → a ≤ℤ n → a ≤ℤ int_max m n
        over m n j = omega (arith, ints, clamps)
    by false s r h i = over (r *ℤ lo) (r *ℤ hi) i
      where
        over : (m n : ℤ) → a ≤ℤ m → a ≤ℤ int_max m n
        over m n j = omega (arith, ints, clamps)

pub greatest_factor-ge : (b lo hi x : ℤ) → pos 0 <ℤ lo → lo ≤ℤ hi → int_min (x *ℤ lo) (x *ℤ hi) ≤ℤ b
    → x ≤ℤ greatest_factor b lo hi
greatest_factor-ge b lo hi x p q h = by (int_le (pos 0) b) refl
  where
    by : (t : Bool) → int_le (pos 0) b ≡ t
        → x ≤ℤ (if t then int_div_floor b lo else int_div_floor b hi)
    by true e = le-floor b lo x p
        (by_lt_z x (pos 0) (λ l. below b (x *ℤ lo)
        (not_above x lo (omega (arith, ints)) (omega (arith, ints))) (omega (arith, ints)))
        (λ l. first b (x *ℤ lo) (x *ℤ hi) h (rising x lo hi l q)))
      where
        below : (b s : ℤ) → s ≤ℤ pos 0 → pos 0 ≤ℤ b → s ≤ℤ b
        below b s h i = omega (arith, ints)

        first : (b s t : ℤ) → int_min s t ≤ℤ b → s ≤ℤ t → s ≤ℤ b
        first b s t h i = omega (arith, ints, clamps)
    by false e = le-floor b hi x (omega (arith, ints))
        (by_lt_z x (pos 0) (λ l. last b (x *ℤ lo) (x *ℤ hi) h
        (falling x lo hi (omega (arith, ints)) q))
        (λ l. absurd (none b (x *ℤ lo) (x *ℤ hi) h (not_below x lo l (omega (arith, ints)))
        (not_below x hi l (omega (arith, ints))) (omega (arith, ints)))))
      where
        last : (b s t : ℤ) → int_min s t ≤ℤ b → t ≤ℤ s → t ≤ℤ b
        last b s t h i = omega (arith, ints, clamps)

        none : (b s t : ℤ) → int_min s t ≤ℤ b → pos 0 ≤ℤ s → pos 0 ≤ℤ t → b <ℤ pos 0 → ⊥
        none b s t h i j k = omega (arith, ints, clamps)

pub greatest_factor-reaches : (b lo hi : ℤ) → pos 0 <ℤ lo → lo ≤ℤ hi
    → int_min (greatest_factor b lo hi *ℤ lo) (greatest_factor b lo hi *ℤ hi) ≤ℤ b
greatest_factor-reaches b lo hi p q =
    by (int_le (pos 0) b) (int_div_floor b lo) (int_div_floor b hi) (floor-parts b lo p).0
    (floor-parts b hi (omega (arith, ints))).0
  where
    by : (t : Bool) (s r : ℤ) → (s *ℤ lo) ≤ℤ b → (r *ℤ hi) ≤ℤ b
        → int_min ((if t then s else r) *ℤ lo) ((if t then s else r) *ℤ hi) ≤ℤ b
    by true s r h i = under (s *ℤ lo) (s *ℤ hi) h
      where
        under : (m n : ℤ) → m ≤ℤ b → int_min m n ≤ℤ b
        under m n j = omega (arith, ints, clamps)
    by false s r h i = under (r *ℤ lo) (r *ℤ hi) i
      where
        under : (m n : ℤ) → n ≤ℤ b → int_min m n ≤ℤ b
        under m n j = omega (arith, ints, clamps)

-- ---- the span of factors

factors_monotone : (a b lo hi a' b' lo' hi' : ℤ) → pos 0 <ℤ lo → lo ≤ℤ lo' → lo' ≤ℤ hi' → hi' ≤ℤ hi
    → a ≤ℤ a' → b' ≤ℤ b → Below (factors_of a b lo hi) (factors_of a' b' lo' hi')
factors_monotone a b lo hi a' b' lo' hi' p q r s h k =
    clip_below (least_factor a lo hi) (greatest_factor b lo hi) (least_factor a' lo' hi')
    (greatest_factor b' lo' hi') (least_factor-le a lo hi (least_factor a' lo' hi') p
    (omega (arith, ints)) low) (greatest_factor-ge b lo hi (greatest_factor b' lo' hi') p
    (omega (arith, ints)) high)
  where
    low : a ≤ℤ int_max (least_factor a' lo' hi' *ℤ lo) (least_factor a' lo' hi' *ℤ hi)
    low = up a a' (least_factor a' lo' hi' *ℤ lo') (least_factor a' lo' hi' *ℤ hi')
        (int_max (least_factor a' lo' hi' *ℤ lo) (least_factor a' lo' hi' *ℤ hi)) h
        (least_factor-reaches a' lo' hi' (omega (arith, ints)) r)
        (product-between (least_factor a' lo' hi') lo hi lo' q (omega (arith, ints))).1
        (product-between (least_factor a' lo' hi') lo hi hi' (omega (arith, ints)) s).1
      where
        up : (a a' m n w : ℤ) → a ≤ℤ a' → a' ≤ℤ int_max m n → m ≤ℤ w → n ≤ℤ w → a ≤ℤ w
        up a a' m n w h i j k = omega (arith, ints, clamps)

    high : int_min (greatest_factor b' lo' hi' *ℤ lo) (greatest_factor b' lo' hi' *ℤ hi) ≤ℤ b
    high = down b b' (greatest_factor b' lo' hi' *ℤ lo') (greatest_factor b' lo' hi' *ℤ hi')
        (int_min (greatest_factor b' lo' hi' *ℤ lo) (greatest_factor b' lo' hi' *ℤ hi)) k
        (greatest_factor-reaches b' lo' hi' (omega (arith, ints)) r)
        (product-between (greatest_factor b' lo' hi') lo hi lo' q (omega (arith, ints))).0
        (product-between (greatest_factor b' lo' hi') lo hi hi' (omega (arith, ints)) s).0
      where
        down : (b b' m n w : ℤ) → b' ≤ℤ b → int_min m n ≤ℤ b' → w ≤ℤ m → w ≤ℤ n → w ≤ℤ b
        down b b' m n w h i j k = omega (arith, ints, clamps)

factors_sound : (a b lo hi x y : ℤ) → pos 0 <ℤ lo → lo ≤ℤ y → y ≤ℤ hi → IsInRange x → a ≤ℤ (x *ℤ y)
    → (x *ℤ y) ≤ℤ b → Holds (factors_of a b lo hi) (Number x)
factors_sound a b lo hi x y p q r s h k =
    let between = product-between x lo hi y q r in
    clip_holds (least_factor a lo hi) (greatest_factor b lo hi) x
    (least_factor-le a lo hi x p (omega (arith, ints))
    (through a (x *ℤ y) (int_max (x *ℤ lo) (x *ℤ hi)) h between.1))
    (greatest_factor-ge b lo hi x p (omega (arith, ints))
    (through (int_min (x *ℤ lo) (x *ℤ hi)) (x *ℤ y) b between.0 k)) s.0 s.1
  where
    through : (s t u : ℤ) → s ≤ℤ t → t ≤ℤ u → s ≤ℤ u
    through s t u h i = omega (arith, ints)

-- ---- quotients

-- narrower spans have narrower dividends
dividends_monotone : (z z' : spans.Span) (k : ℤ) → pos 1 ≤ℤ k → Below (Span z) (Span z')
    → (least_dividend z k ≤ℤ least_dividend z' k)
    × (greatest_dividend z' k ≤ℤ greatest_dividend z k)
dividends_monotone z z' k s p = (
  more (k *ℤ (z.lo -ℤ pos 1)) (k *ℤ (z'.lo -ℤ pos 1))
      (rising k (z.lo -ℤ pos 1) (z'.lo -ℤ pos 1) (omega (arith, ints)) (omega (arith, ints))),
  less (k *ℤ (z'.hi +ℤ pos 1)) (k *ℤ (z.hi +ℤ pos 1))
      (rising k (z'.hi +ℤ pos 1) (z.hi +ℤ pos 1) (omega (arith, ints)) (omega (arith, ints))),
)
  where
    more : (m n : ℤ) → m ≤ℤ n → (m +ℤ pos 1) ≤ℤ (n +ℤ pos 1)
    more m n h = omega (arith, ints)

    less : (m n : ℤ) → m ≤ℤ n → (m -ℤ pos 1) ≤ℤ (n -ℤ pos 1)
    less m n h = omega (arith, ints)

-- a product that belongs to a number of z lies between the dividends
dividends_around : (z : spans.Span) (k x y v : ℤ) → pos 1 ≤ℤ k → Holds (Span z) (Number v)
    → IsProduct k x y v → (least_dividend z k ≤ℤ (x *ℤ y)) × ((x *ℤ y) ≤ℤ greatest_dividend z k)
dividends_around z k x y v s h r = (
  more (k *ℤ (z.lo -ℤ pos 1)) (k *ℤ (v -ℤ pos 1)) (x *ℤ y)
      (rising k (z.lo -ℤ pos 1) (v -ℤ pos 1) (omega (arith, ints)) (omega (arith, ints))) r.0,
  less (k *ℤ (z.hi +ℤ pos 1)) (k *ℤ (v +ℤ pos 1)) (x *ℤ y)
      (rising k (v +ℤ pos 1) (z.hi +ℤ pos 1) (omega (arith, ints)) (omega (arith, ints))) r.1,
)
  where
    more : (m n w : ℤ) → m ≤ℤ n → n <ℤ w → (m +ℤ pos 1) ≤ℤ w
    more m n w h i = omega (arith, ints)

    less : (m n w : ℤ) → n ≤ℤ m → w <ℤ n → w ≤ℤ (m -ℤ pos 1)
    less m n w h i = omega (arith, ints)

-- a divisor that is wholly above or below zero stays so
quotient_monotone_above : (z y z' y' : spans.Span) (k : ℤ) → pos 1 ≤ℤ k → Below (Span z) (Span z')
    → Below (Span y) (Span y') → pos 0 <ℤ y.lo → Below (quotient_of z y k) (quotient_of z' y' k)
quotient_monotone_above z y z' y' k s p q l =
    let l' : pos 0 <ℤ y'.lo = omega (arith, ints) in
    let dividends = dividends_monotone z z' k s p in
    let narrower = factors_monotone (least_dividend z k) (greatest_dividend z k) y.lo y.hi
    (least_dividend z' k) (greatest_dividend z' k) y'.lo y'.hi l q.0 y'.ordered q.1 dividends.0
    dividends.1 in
    subst (λ a. Below a (quotient_of z' y' k)) (quotient_above z y k (zero_from_out y (inl l)) l)
    (subst (λ b. Below (factors_of (least_dividend z k) (greatest_dividend z k) y.lo y.hi) b)
    (quotient_above z' y' k (zero_from_out y' (inl l')) l') narrower)

quotient_monotone_below : (z y z' y' : spans.Span) (k : ℤ) → pos 1 ≤ℤ k → Below (Span z) (Span z')
    → Below (Span y) (Span y') → y.hi <ℤ pos 0 → Below (quotient_of z y k) (quotient_of z' y' k)
quotient_monotone_below z y z' y' k s p q l =
    let l' : y'.hi <ℤ pos 0 = omega (arith, ints) in
    let dividends = dividends_monotone z z' k s p in
    let narrower = factors_monotone (neg_ℤ (greatest_dividend z k)) (neg_ℤ (least_dividend z k))
    (neg_ℤ y.hi) (neg_ℤ y.lo) (neg_ℤ (greatest_dividend z' k)) (neg_ℤ (least_dividend z' k))
    (neg_ℤ y'.hi) (neg_ℤ y'.lo) (omega (arith, ints)) (turned y'.hi y.hi q.1)
    (turned y'.lo y'.hi y'.ordered) (turned y.lo y'.lo q.0)
    (turned (greatest_dividend z' k) (greatest_dividend z k) dividends.1)
    (turned (least_dividend z k) (least_dividend z' k) dividends.0) in
    subst (λ a. Below a (quotient_of z' y' k))
    (quotient_below z y k (zero_from_out y (inr l)) (omega (arith, ints)))
    (subst (λ b. Below (factors_of (neg_ℤ (greatest_dividend z k)) (neg_ℤ (least_dividend z k))
    (neg_ℤ y.hi) (neg_ℤ y.lo)) b)
    (quotient_below z' y' k (zero_from_out y' (inr l')) (omega (arith, ints))) narrower)
  where
    turned : (m n : ℤ) → m ≤ℤ n → neg_ℤ n ≤ℤ neg_ℤ m
    turned m n h = omega (arith, ints)

pub quotient_monotone : (z y z' y' : spans.Span) (k : ℤ) → pos 1 ≤ℤ k → Below (Span z) (Span z')
    → Below (Span y) (Span y') → Below (quotient_of z y k) (quotient_of z' y' k)
quotient_monotone z y z' y' k s p q = by (holds_zero y) refl
  where
    by : (t : Bool) → holds_zero y ≡ t → Below (quotient_of z y k) (quotient_of z' y' k)
    by true e = subst (λ a. Below a (quotient_of z' y' k)) (quotient_at_zero z y k e) tt
    by false e = elim (zero_out y e) [
      | inl l ↦ quotient_monotone_above z y z' y' k s p q l
      | inr l ↦ quotient_monotone_below z y z' y' k s p q l
    ]

pub quotient_kind : (size : ℕ) (z y : spans.Span) (k : ℤ) → IsOf kinds.Span size (quotient_of z y k)
quotient_kind size z y k = by (holds_zero y) (int_lt (pos 0) y.lo)
  where
    by : (s t : Bool) → IsOf kinds.Span size
        (if s then Nothing else (if t then factors_of (least_dividend z k) (greatest_dividend z k)
        y.lo y.hi else factors_of (neg_ℤ (greatest_dividend z k)) (neg_ℤ (least_dividend z k))
        (neg_ℤ y.hi) (neg_ℤ y.lo)))
    by true t = tt
    by false true = clip_of_span size _ _
    by false false = clip_of_span size _ _

pub quotient_sound : (z y : spans.Span) (k v w x : ℤ) → pos 1 ≤ℤ k → Holds (Span z) (Number v)
    → Holds (Span y) (Number w) → IsInRange x → IsProduct k x w v
    → Holds (quotient_of z y k) (Number x)
quotient_sound z y k v w x s p q r e = by (holds_zero y) refl
  where
    around : (least_dividend z k ≤ℤ (x *ℤ w)) × ((x *ℤ w) ≤ℤ greatest_dividend z k)
    around = dividends_around z k x w v s p e

    turned : (least_dividend z k ≤ℤ (x *ℤ w)) × ((x *ℤ w) ≤ℤ greatest_dividend z k)
        → (neg_ℤ (greatest_dividend z k) ≤ℤ (x *ℤ neg_ℤ w))
        × ((x *ℤ neg_ℤ w) ≤ℤ neg_ℤ (least_dividend z k))
    turned h = flipped (least_dividend z k) (greatest_dividend z k) (x *ℤ w) (x *ℤ neg_ℤ w)
        (*ℤ_comm x (neg_ℤ w) ∙ neg-product w x ∙ ap neg_ℤ (*ℤ_comm w x)) h.0 h.1
      where
        flipped : (a b m n : ℤ) → n ≡ neg_ℤ m → a ≤ℤ m → m ≤ℤ b → (neg_ℤ b ≤ℤ n) × (n ≤ℤ neg_ℤ a)
        flipped a b m n f h i = (omega (arith, ints), omega (arith, ints))

    by : (t : Bool) → holds_zero y ≡ t → Holds (quotient_of z y k) (Number x)
    by true f = subst (λ a. Holds a (Number x)) (quotient_at_zero z y k f) tt
    by false f = elim (zero_out y f) [
      | inl l ↦ subst (λ a. Holds a (Number x)) (quotient_above z y k f l)
          (factors_sound (least_dividend z k) (greatest_dividend z k) y.lo y.hi x w l q.0 q.1 r
          around.0 around.1)
      | inr l ↦ subst (λ a. Holds a (Number x)) (quotient_below z y k f (omega (arith, ints)))
          (factors_sound (neg_ℤ (greatest_dividend z k)) (neg_ℤ (least_dividend z k)) (neg_ℤ y.hi)
          (neg_ℤ y.lo) x (neg_ℤ w) (omega (arith, ints)) (omega (arith, ints)) (omega (arith, ints))
          r (turned around).0 (turned around).1)
    ]
