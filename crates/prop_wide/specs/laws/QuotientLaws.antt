-- The laws of quotients that are rounded down, and of what they leave.
use Rattle.std.specs.Prelude.{◌≡◌, ◌≢◌, ℤ, pos, neg_ℤ, ◌+ℤ◌, ◌-ℤ◌, ◌*ℤ◌, ◌≤ℤ◌, ◌<ℤ◌, Bool, true}
use Rattle.std.specs.Prelude.{false, int_le, int_lt, if◌then◌else◌}
use Rattle.std.specs.Int.{int_max, int_min}
use Rattle.std.proofs.Common.{arith, refl, inl, inr, ap, sym, ◌∙◌}
use Rattle.std.proofs.lemmas.Int.{ints, clamps, by_lt_z}
use lib.IntN.{*ℤ_comm}
use Rattle.prop_intervals.specs.Clip.{clip}
use Rattle.prop_intervals.specs.inner.Parts.{int_div_floor}
use Rattle.prop_intervals.specs.laws.ClipLaws.{clip_below, clip_of_span, clip_holds}
use Rattle.prop_intervals.specs.laws.QuotientLaws.{product-add, product-le, product-ge, floor-parts}
use Rattle.prop_intervals.specs.laws.QuotientLaws.{le-floor, floor-lt, neg-product}
use Rattle.prop_intervals.specs.laws.Relations.{IsInRange}
use Rattle.prop_lattice.specs.Order.{Below}
use Rattle.prop_lattice.specs.laws.OrderLaws.{to_top}
use Rattle.prop_lattice.specs.Points.{Number, Holds}
use Rattle.prop_lattice.specs.Rank.{IsOf}
use Rattle.prop_lattice.specs.declared.span.TheConstants.{B}
use Rattle.prop_lattice.specs.declared.info.Info.{Info}
use Rattle.prop_lattice.specs.declared.info.Info.TheVariants.{Contradiction}
use Rattle.prop_lattice.specs.declared.info.Kind.TheVariants as kinds
use Rattle.prop_wide.specs.Ends.{low_of, high_of, known, part_of}
use Rattle.prop_wide.specs.Hulls.{hull_of}
use Rattle.prop_wide.specs.Quotients.{IsQuotient, IsRemainder, least_quotient, greatest_quotient}
use Rattle.prop_wide.specs.Quotients.{quotients_of, quotient_of, is_zero, remainder_of}
use Rattle.prop_wide.specs.Quotients.{divisors_above}
use Rattle.prop_wide.specs.Quotients.{divisors_below, divisor_of}
use Rattle.prop_wide.specs.laws.EndLaws.{AreWithin, IsBetween}
use Rattle.prop_wide.specs.laws.EndLaws.{ends_within, held_between, known_below, known_kind}
use Rattle.prop_wide.specs.laws.EndLaws.{known_holds, part_below, part_holds, both_from}
use Rattle.prop_wide.specs.laws.EndLaws.{both_to, part_kind}
use Rattle.prop_wide.specs.laws.HullLaws.{hull_below, hull_kind, hull_holds_first}
use Rattle.prop_wide.specs.laws.HullLaws.{hull_holds_second, narrowed_below, narrowed_kind}
use Rattle.prop_wide.specs.laws.HullLaws.{narrowed_holds}
use Rattle.prop_wide.specs.laws.TruthLaws.{never}

-- ---- orders of products

through : (a b c : ℤ) → a ≤ℤ b → b ≤ℤ c → a ≤ℤ c
through a b c p q = omega (arith, ints)

-- a factor that is not negative keeps the order, and one that is not positive turns it round
grows_by : (q a b : ℤ) → pos 0 ≤ℤ q → a ≤ℤ b → (q *ℤ a) ≤ℤ (q *ℤ b)
grows_by q a b p h = rw (*ℤ_comm q a, *ℤ_comm q b) (product-le a b q h p)

falls_by : (q a b : ℤ) → q ≤ℤ pos 0 → a ≤ℤ b → (q *ℤ b) ≤ℤ (q *ℤ a)
falls_by q a b p h = rw (*ℤ_comm q a, *ℤ_comm q b) (product-ge a b q h p)

zero_times : (v : ℤ) → (pos 0 *ℤ v) ≡ pos 0
zero_times v = omega (arith, ints)

one_times : (v : ℤ) → (pos 1 *ℤ v) ≡ v
one_times v = omega (arith, ints)

-- ---- the ends of quotients

floor_not_below : (a d : ℤ) → pos 0 <ℤ d → pos 0 ≤ℤ a → pos 0 ≤ℤ int_div_floor a d
floor_not_below a d p h = le-floor a d (pos 0) p (rw (zero_times d) h)

floor_not_above : (a d : ℤ) → pos 0 <ℤ d → a <ℤ pos 0 → int_div_floor a d ≤ℤ pos 0
floor_not_above a d p h = less (int_div_floor a d) (floor-lt a d (pos 0) p (rw (zero_times d) h))
  where
    less : (q : ℤ) → q <ℤ pos 0 → q ≤ℤ pos 0
    less q l = omega (arith, ints)

-- the least quotient times a divisor is at most what is divided
least_under : (lo c d u v : ℤ) → pos 0 <ℤ c → c ≤ℤ v → v ≤ℤ d → lo ≤ℤ u
    → (least_quotient lo c d *ℤ v) ≤ℤ u
least_under lo c d u v p q r h = by (int_le (pos 0) lo) refl
  where
    by : (t : Bool) → int_le (pos 0) lo ≡ t
        → ((if t then int_div_floor lo d else int_div_floor lo c) *ℤ v) ≤ℤ u
    by true e = through _ (int_div_floor lo d *ℤ d) u
        (grows_by (int_div_floor lo d) v d (floor_not_below lo d (omega (arith, ints)) (omega
        (arith, ints))) r)
        (through _ lo u (floor-parts lo d (omega (arith, ints))).0 h)
    by false e = through _ (int_div_floor lo c *ℤ c) u
        (falls_by (int_div_floor lo c) c v (floor_not_above lo c p (omega (arith, ints))) q)
        (through _ lo u (floor-parts lo c p).0 h)

-- no number that times a divisor is at most what is divided is above the greatest quotient
greatest_over : (hi c d u v w : ℤ) → pos 0 <ℤ c → c ≤ℤ v → v ≤ℤ d → u ≤ℤ hi → (w *ℤ v) ≤ℤ u
    → w ≤ℤ greatest_quotient hi c d
greatest_over hi c d u v w p q r h k = by (int_le (pos 0) hi) refl
  where
    by : (t : Bool) → int_le (pos 0) hi ≡ t
        → w ≤ℤ (if t then int_div_floor hi c else int_div_floor hi d)
    by true e = le-floor hi c w p (by_lt_z w (pos 0)
        (λ l. through (w *ℤ c) (pos 0) hi (rw (← (zero_times c))
        (product-le w (pos 0) c (omega (arith, ints)) (omega (arith, ints)))) (omega (arith, ints)))
        (λ l. through (w *ℤ c) (w *ℤ v) hi (grows_by w c v l q) (through (w *ℤ v) u hi k h)))
    by false e = le-floor hi d w (omega (arith, ints)) (by_lt_z w (pos 0)
        (λ l. through (w *ℤ d) (w *ℤ v) hi (falls_by w v d (omega (arith, ints)) r)
        (through (w *ℤ v) u hi k h))
        (λ l. absurd (clash (w *ℤ v) (pos 0 *ℤ v) (zero_times v)
        (product-le (pos 0) w v l (omega (arith, ints))) (through (w *ℤ v) u hi k h) e)))
      where
        clash : (m n : ℤ) → n ≡ pos 0 → n ≤ℤ m → m ≤ℤ hi → int_le (pos 0) hi ≡ false → ⊥
        clash m n e l h f = omega (arith, ints)

-- a number times a divisor is at most what is divided only up to the quotient
at_most_quotient : (q u v w : ℤ) → pos 0 <ℤ v → (q *ℤ v) ≤ℤ u → u <ℤ ((w *ℤ v) +ℤ v) → q ≤ℤ w
at_most_quotient q u v w p h k =
    less q (int_div_floor u v) w (le-floor u v q p h) (floor-lt u v (w +ℤ pos 1) p
    (rw (product-add w (pos 1) v, one_times v) k))
  where
    less : (a b c : ℤ) → a ≤ℤ b → b <ℤ (c +ℤ pos 1) → a ≤ℤ c
    less a b c h k = omega (arith, ints)

-- ---- quotients by what is above zero

quotients_below : (lo hi c d lo' hi' c' d' : ℤ) → pos 0 <ℤ c → lo ≤ℤ lo' → hi' ≤ℤ hi → c ≤ℤ c'
    → d' ≤ℤ d → Below (quotients_of lo hi c d) (quotients_of lo' hi' c' d')
unfolding quotients_of
quotients_below lo hi c d lo' hi' c' d' z p q r s = by (int_lt d c) refl (int_lt d' c') refl
  where
    by : (t : Bool) → int_lt d c ≡ t → (t' : Bool) → int_lt d' c' ≡ t' →
        Below (if t then Contradiction else clip (least_quotient lo c d) (greatest_quotient hi c d))
        (if t' then Contradiction
        else clip (least_quotient lo' c' d') (greatest_quotient hi' c' d'))
    by t e true f = to_top _
    by true e false f = absurd (omega (arith, ints))
    by false e false f = clip_below _ _ _ _ (low (int_le (pos 0) lo')) (high (int_le (pos 0) hi'))
      where
        low : (t : Bool) → least_quotient lo c d
            ≤ℤ (if t then int_div_floor lo' d' else int_div_floor lo' c')
        low true = le-floor lo' d' _ (omega (arith, ints))
            (least_under lo c d lo' d' z (omega (arith, ints)) s p)
        low false = le-floor lo' c' _ (omega (arith, ints))
            (least_under lo c d lo' c' z r (omega (arith, ints)) p)

        high : (t : Bool) → (if t then int_div_floor hi' c' else int_div_floor hi' d')
            ≤ℤ greatest_quotient hi c d
        high true = greatest_over hi c d hi' c' (int_div_floor hi' c') z r (omega (arith, ints)) q
            (floor-parts hi' c' (omega (arith, ints))).0
        high false = greatest_over hi c d hi' d' (int_div_floor hi' d') z (omega (arith, ints)) s q
            (floor-parts hi' d' (omega (arith, ints))).0

pub quotients_kind : (lo hi c d : ℤ) → IsOf kinds.Span 0 (quotients_of lo hi c d)
unfolding quotients_of
quotients_kind lo hi c d = by (int_lt d c)
  where
    by : (t : Bool) → IsOf kinds.Span 0 (if t then Contradiction
        else clip (least_quotient lo c d) (greatest_quotient hi c d))
    by true = tt
    by false = clip_of_span 0 _ _

pub quotients_hold : (lo hi c d u v w : ℤ) → pos 0 <ℤ c → lo ≤ℤ u → u ≤ℤ hi → c ≤ℤ v → v ≤ℤ d
    → IsInRange w → (w *ℤ v) ≤ℤ u → u <ℤ ((w *ℤ v) +ℤ v)
    → Holds (quotients_of lo hi c d) (Number w)
unfolding quotients_of
quotients_hold lo hi c d u v w z p q r s i h k = by (int_lt d c) refl
  where
    by : (t : Bool) → int_lt d c ≡ t → Holds (if t then Contradiction
        else clip (least_quotient lo c d) (greatest_quotient hi c d)) (Number w)
    by true e = absurd (omega (arith, ints))
    by false e = clip_holds _ _ w (at_most_quotient (least_quotient lo c d) u v w
        (omega (arith, ints)) (least_under lo c d u v z r s p) k)
        (greatest_over hi c d u v w z r s q h) i.0 i.1

-- ---- quotients

at_least_one : (a b : ℤ) → a ≤ℤ b → int_max a (pos 1) ≤ℤ int_max b (pos 1)
at_least_one a b p = omega (arith, ints, clamps)

pub one_above : (a : ℤ) → pos 0 <ℤ int_max a (pos 1)
one_above a = omega (arith, ints, clamps)

turned : (a b : ℤ) → a ≤ℤ b → neg_ℤ b ≤ℤ neg_ℤ a
turned a b p = omega (arith, ints)

pub quotient_below : (x y x' y' : Info) → Below x x' → Below y y' → x' ≢ Contradiction
    → y' ≢ Contradiction → Below (quotient_of x y) (quotient_of x' y')
quotient_below x y x' y' p q n m =
    let a = ends_within x x' p n in
    let b = ends_within y y' q m in
    narrowed_below _ _ (hull_below _ _ _ _
    (quotients_below _ _ _ _ _ _ _ _ (one_above (low_of y)) a.low a.high (at_least_one _ _ b.low)
    b.high)
    (quotients_below _ _ _ _ _ _ _ _ (one_above (neg_ℤ (high_of y))) (turned _ _ a.high)
    (turned _ _ a.low) (at_least_one _ _ (turned _ _ b.high)) (turned _ _ b.low)))

pub quotient_kind : (x y : Info) → IsOf kinds.Span 0 (quotient_of x y)
quotient_kind x y = narrowed_kind _ (hull_kind kinds.Span 0
    (quotients_of (low_of x) (high_of x) (int_max (low_of y) (pos 1)) (high_of y))
    (quotients_of (neg_ℤ (high_of x)) (neg_ℤ (low_of x)) (int_max (neg_ℤ (high_of y)) (pos 1))
    (neg_ℤ (low_of y)))
    (quotients_kind (low_of x) (high_of x) (int_max (low_of y) (pos 1)) (high_of y))
    (quotients_kind (neg_ℤ (high_of x)) (neg_ℤ (low_of x)) (int_max (neg_ℤ (high_of y)) (pos 1))
    (neg_ℤ (low_of y))))

pub quotient_sound : (x y : Info) (u v w : ℤ) → Holds x (Number u) → Holds y (Number v)
    → IsInRange u → IsInRange v → IsInRange w → IsQuotient u v w
    → Holds (quotient_of x y) (Number w)
quotient_sound x y u v w h k r s t e = narrowed_holds _ (Number w) (by e)
  where
    a : IsBetween x u
    a = held_between x u h r

    b : IsBetween y v
    b = held_between y v k s

    above : Info
    above = quotients_of (low_of x) (high_of x) (int_max (low_of y) (pos 1)) (high_of y)

    below : Info
    below = quotients_of (neg_ℤ (high_of x)) (neg_ℤ (low_of x)) (int_max (neg_ℤ (high_of y))
        (pos 1))
        (neg_ℤ (low_of y))

    from_one : (l v : ℤ) → l ≤ℤ v → pos 0 <ℤ v → int_max l (pos 1) ≤ℤ v
    from_one l v p q = omega (arith, ints, clamps)

    by : IsQuotient u v w → Holds (hull_of above below) (Number w)
    by (inl e) = hull_holds_first above below (Number w)
        (quotients_hold _ _ _ _ u v w (one_above (low_of y)) a.from a.to
        (from_one (low_of y) v b.from e.0) b.to t e.1 e.2)
    by (inr e) = hull_holds_second above below (Number w)
        (quotients_hold _ _ _ _ (neg_ℤ u) (neg_ℤ v) w (one_above (neg_ℤ (high_of y)))
        (turned _ _ a.to) (turned _ _ a.from)
        (from_one (neg_ℤ (high_of y)) (neg_ℤ v) (turned _ _ b.to) (omega (arith, ints, e.0)))
        (turned _ _ b.from) t (opposite (w *ℤ v) (w *ℤ neg_ℤ v) u back e.1)
        (opposite_next (w *ℤ v) (w *ℤ neg_ℤ v) u v back e.2))
      where
        back : (w *ℤ neg_ℤ v) ≡ neg_ℤ (w *ℤ v)
        back = *ℤ_comm w (neg_ℤ v) ∙ neg-product v w ∙ ap neg_ℤ (*ℤ_comm v w)

        opposite : (m n u : ℤ) → n ≡ neg_ℤ m → u ≤ℤ m → n ≤ℤ neg_ℤ u
        opposite m n u e p = omega (arith, ints)

        opposite_next : (m n u v : ℤ) → n ≡ neg_ℤ m → (m +ℤ v) <ℤ u → neg_ℤ u <ℤ (n +ℤ neg_ℤ v)
        opposite_next m n u v e p = omega (arith, ints)

-- ---- remainders

zero_ends : (l h : ℤ) → is_zero l h ≡ true → (pos 0 ≤ℤ l) × (h ≤ℤ pos 0)
zero_ends l h = both_to (pos 0) l h (pos 0)

ends_zero : (l h : ℤ) → pos 0 ≤ℤ l → h ≤ℤ pos 0 → is_zero l h ≡ true
ends_zero l h = both_from (pos 0) l h (pos 0)

-- ends that are not both zero have such ends around them
not_both_zero : (l h l' h' : ℤ) → l ≤ℤ l' → h' ≤ℤ h → is_zero l' h' ≡ false → is_zero l h ≡ false
not_both_zero l h l' h' p q e = by (is_zero l h) refl
  where
    by : (t : Bool) → is_zero l h ≡ t → t ≡ false
    by false f = refl
    by true f =
        let zero = zero_ends l h f in
        absurd (never (sym e ∙ ends_zero l' h' (through _ l l' zero.0 p)
        (through h' h (pos 0) q zero.1)))

pub remainder_below : (y y' : Info) → Below y y' → y' ≢ Contradiction
    → Below (remainder_of y) (remainder_of y')
remainder_below y y' p n = by (is_zero (low_of y) (high_of y)) refl
    (is_zero (low_of y') (high_of y')) refl
  where
    a : AreWithin y y'
    a = ends_within y y' p n

    lower : (l l' : ℤ) → l ≤ℤ l' → int_min (l +ℤ pos 1) (pos 0) ≤ℤ int_min (l' +ℤ pos 1) (pos 0)
    lower l l' p = omega (arith, ints, clamps)

    upper : (h h' : ℤ) → h' ≤ℤ h → int_max (h' -ℤ pos 1) (pos 0) ≤ℤ int_max (h -ℤ pos 1) (pos 0)
    upper h h' p = omega (arith, ints, clamps)

    by : (t : Bool) → is_zero (low_of y) (high_of y) ≡ t → (t' : Bool)
        → is_zero (low_of y') (high_of y') ≡ t' →
        Below (if t then Contradiction
        else known (int_min (low_of y +ℤ pos 1) (pos 0)) (int_max (high_of y -ℤ pos 1) (pos 0)))
        (if t' then Contradiction
        else known (int_min (low_of y' +ℤ pos 1) (pos 0)) (int_max (high_of y' -ℤ pos 1) (pos 0)))
    by t e true f = to_top _
    by true e false f =
        absurd (never (sym (not_both_zero _ _ _ _ a.low a.high f) ∙ e))
    by false e false f = known_below _ _ _ _ (lower _ _ a.low) (upper _ _ a.high)

pub remainder_kind : (y : Info) → IsOf kinds.Span 0 (remainder_of y)
remainder_kind y = by (is_zero (low_of y) (high_of y))
  where
    by : (t : Bool) → IsOf kinds.Span 0 (if t then Contradiction
        else known (int_min (low_of y +ℤ pos 1) (pos 0)) (int_max (high_of y -ℤ pos 1) (pos 0)))
    by true = tt
    by false = known_kind 0 _ _

pub remainder_sound : (y : Info) (v w : ℤ) → Holds y (Number v) → IsInRange v → IsInRange w
    → IsRemainder v w → Holds (remainder_of y) (Number w)
remainder_sound y v w h r s e =
    let a = held_between y v h r in
    by (low_of y) (high_of y) a.from a.to e (is_zero (low_of y) (high_of y)) refl
  where
    by : (l o : ℤ) → l ≤ℤ v → v ≤ℤ o → IsRemainder v w → (t : Bool) → is_zero l o ≡ t
        → Holds (if t then Contradiction
        else known (int_min (l +ℤ pos 1) (pos 0)) (int_max (o -ℤ pos 1) (pos 0))) (Number w)
    by l o p q (inl e) true f =
        let zero = zero_ends l o f in
        absurd (omega (arith, ints, e.0, e.1, zero.0, zero.1))
    by l o p q (inr e) true f =
        let zero = zero_ends l o f in
        absurd (omega (arith, ints, e.0, e.1, zero.0, zero.1))
    by l o p q (inl e) false f = known_holds _ _ w (omega (arith, ints, clamps, e.0, e.1))
        (omega (arith, ints, clamps, e.0, e.1)) s
    by l o p q (inr e) false f = known_holds _ _ w (omega (arith, ints, clamps, e.0, e.1))
        (omega (arith, ints, clamps, e.0, e.1)) s

-- ---- divisors

divisors_above_below : (r y r' y' : Info) → AreWithin r r' → AreWithin y y'
    → Below (divisors_above r y) (divisors_above r' y')
divisors_above_below r y r' y' a b =
    by (int_lt (high_of r) (pos 0)) refl (int_lt (high_of r') (pos 0)) refl
  where
    by : (t : Bool) → int_lt (high_of r) (pos 0) ≡ t → (t' : Bool)
        → int_lt (high_of r') (pos 0) ≡ t' →
        Below (if t then Contradiction else part_of y (int_max (low_of r) (pos 0) +ℤ pos 1) B)
        (if t' then Contradiction else part_of y' (int_max (low_of r') (pos 0) +ℤ pos 1) B)
    by t e true f = to_top _
    by true e false f = absurd (omega (arith, ints, a.high))
    by false e false f = part_below y y' (int_max (low_of r) (pos 0) +ℤ pos 1) B
        (int_max (low_of r') (pos 0) +ℤ pos 1) B b (further (low_of r) (low_of r') a.low)
        (omega (arith, ints))
      where
        further : (l l' : ℤ) → l ≤ℤ l'
            → (int_max l (pos 0) +ℤ pos 1) ≤ℤ (int_max l' (pos 0) +ℤ pos 1)
        further l l' p = omega (arith, ints, clamps)

divisors_below_below : (r y r' y' : Info) → AreWithin r r' → AreWithin y y'
    → Below (divisors_below r y) (divisors_below r' y')
divisors_below_below r y r' y' a b =
    by (int_lt (pos 0) (low_of r)) refl (int_lt (pos 0) (low_of r')) refl
  where
    by : (t : Bool) → int_lt (pos 0) (low_of r) ≡ t → (t' : Bool)
        → int_lt (pos 0) (low_of r') ≡ t' →
        Below
        (if t then Contradiction else part_of y (neg_ℤ B) (int_min (high_of r) (pos 0) -ℤ pos 1))
        (if t' then Contradiction else part_of y' (neg_ℤ B) (int_min (high_of r') (pos 0) -ℤ pos 1))
    by t e true f = to_top _
    by true e false f = absurd (omega (arith, ints, a.low))
    by false e false f = part_below y y' (neg_ℤ B) (int_min (high_of r) (pos 0) -ℤ pos 1) (neg_ℤ B)
        (int_min (high_of r') (pos 0) -ℤ pos 1) b (omega (arith, ints))
        (further (high_of r) (high_of r') a.high)
      where
        further : (h h' : ℤ) → h' ≤ℤ h
            → (int_min h' (pos 0) -ℤ pos 1) ≤ℤ (int_min h (pos 0) -ℤ pos 1)
        further h h' p = omega (arith, ints, clamps)

pub divisor_below : (r y r' y' : Info) → Below r r' → Below y y' → r' ≢ Contradiction
    → y' ≢ Contradiction → Below (divisor_of r y) (divisor_of r' y')
divisor_below r y r' y' p q n m =
    let a = ends_within r r' p n in
    let b = ends_within y y' q m in
    narrowed_below _ _ (hull_below _ _ _ _ (divisors_above_below r y r' y' a b)
    (divisors_below_below r y r' y' a b))

pub divisor_kind : (r y : Info) → IsOf kinds.Span 0 (divisor_of r y)
divisor_kind r y = narrowed_kind _ (hull_kind kinds.Span 0 (divisors_above r y) (divisors_below r y)
    (above (int_lt (high_of r) (pos 0))) (below (int_lt (pos 0) (low_of r))))
  where
    above : (t : Bool) → IsOf kinds.Span 0 (if t then Contradiction
        else part_of y (int_max (low_of r) (pos 0) +ℤ pos 1) B)
    above true = tt
    above false = part_kind 0 y (int_max (low_of r) (pos 0) +ℤ pos 1) B

    below : (t : Bool) → IsOf kinds.Span 0 (if t then Contradiction
        else part_of y (neg_ℤ B) (int_min (high_of r) (pos 0) -ℤ pos 1))
    below true = tt
    below false = part_kind 0 y (neg_ℤ B) (int_min (high_of r) (pos 0) -ℤ pos 1)

pub divisor_sound : (r y : Info) (w v o : ℤ) → Holds r (Number w) → Holds y (Number v)
    → IsInRange w → IsInRange v → IsInRange o → (o ≡ v) × IsRemainder v w
    → Holds (divisor_of r y) (Number o)
divisor_sound r y w v o h k s t i e = rw e.0 (narrowed_holds _ (Number v) (by e.1))
  where
    a : IsBetween r w
    a = held_between r w h s

    b : IsBetween y v
    b = held_between y v k t

    above : (q : Bool) → int_lt (high_of r) (pos 0) ≡ q → pos 0 ≤ℤ w → w <ℤ v
        → Holds (if q then Contradiction
        else part_of y (int_max (low_of r) (pos 0) +ℤ pos 1) B) (Number v)
    above true f l g = absurd (omega (arith, ints, a.to))
    above false f l g = part_holds y _ _ v b (omega (arith, ints, clamps, a.from)) t.1

    below : (q : Bool) → int_lt (pos 0) (low_of r) ≡ q → v <ℤ w → w ≤ℤ pos 0
        → Holds (if q then Contradiction
        else part_of y (neg_ℤ B) (int_min (high_of r) (pos 0) -ℤ pos 1)) (Number v)
    below true f l g = absurd (omega (arith, ints, a.from))
    below false f l g = part_holds y _ _ v b t.0 (omega (arith, ints, clamps, a.to))

    by : IsRemainder v w → Holds (hull_of (divisors_above r y) (divisors_below r y)) (Number v)
    by (inl f) = hull_holds_first (divisors_above r y) (divisors_below r y) (Number v)
        (above (int_lt (high_of r) (pos 0)) refl f.0 f.1)
    by (inr f) = hull_holds_second (divisors_above r y) (divisors_below r y) (Number v)
        (below (int_lt (pos 0) (low_of r)) refl f.0 f.1)
