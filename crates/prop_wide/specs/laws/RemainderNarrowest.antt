-- What a division leaves, and by what, is answered as narrowly as can be.
use Rattle.std.specs.Prelude.{◌≡◌, ℤ, pos, neg_ℤ, ◌+ℤ◌, ◌-ℤ◌, ◌≤ℤ◌, ◌<ℤ◌, ◌⊎◌, Bool, true, false}
use Rattle.std.specs.Prelude.{int_lt, if◌then◌else◌}
use Rattle.std.specs.Int.{int_max, int_min}
use Rattle.std.proofs.Common.{arith, refl, sym, inl, inr, ◌∙◌}
use Rattle.std.proofs.lemmas.Int.{ints, clamps, by_lt_z}
use Rattle.prop_intervals.specs.laws.Relations.{IsInRange}
use Rattle.prop_lattice.specs.Points.{Number, Holds}
use Rattle.prop_lattice.specs.Rank.{IsOf}
use Rattle.prop_lattice.specs.declared.span.TheConstants.{B}
use Rattle.prop_lattice.specs.declared.info.Info.TheVariants.{Contradiction}
use Rattle.prop_lattice.specs.declared.info.Kind.TheVariants as kinds
use Rattle.prop_wide.specs.Ends.{low_of, high_of, known, part_of}
use Rattle.prop_wide.specs.Narrowest.{IsNarrowest, BelongsToOne, BelongsToTwo}
use Rattle.prop_wide.specs.Narrowest.{RemainderIsNarrowest, DivisorIsNarrowest}
use Rattle.prop_wide.specs.Quotients.{IsRemainder, is_zero, divisors_above}
use Rattle.prop_wide.specs.Quotients.{divisors_below}
use Rattle.prop_wide.specs.laws.EndLaws.{AreOrdered, IsBetween, ends_ordered, held_between}
use Rattle.prop_wide.specs.laws.EndLaws.{part_holds, part_kind, both_from}
use Rattle.prop_wide.specs.laws.NarrowestLaws.{low_left, high_left, between_left, known_from}
use Rattle.prop_wide.specs.laws.NarrowestLaws.{reached, none, exact, same, hull_narrowest}
use Rattle.prop_wide.specs.laws.NarrowestLaws.{narrowed_narrowest, part_from}
use Rattle.prop_wide.specs.laws.QuotientLaws.{remainder_sound}
use Rattle.prop_wide.specs.laws.TruthLaws.{never}

-- ---- remainders

-- where not both ends are zero, the greatest is above it or the least is below it
above_zero : (l h : ℤ) → is_zero l h ≡ false → pos 0 ≤ℤ l → pos 0 <ℤ h
above_zero l h e p = by_lt_z (pos 0) h (λ k. k)
    (λ k. absurd (never (sym e ∙ both_from (pos 0) l h (pos 0) p k)))

below_zero : (l h : ℤ) → is_zero l h ≡ false → h ≤ℤ pos 0 → l <ℤ pos 0
below_zero l h e p = by_lt_z l (pos 0) (λ k. k)
    (λ k. absurd (never (sym e ∙ both_from (pos 0) l h (pos 0) k p)))

pub remainder_narrowest : RemainderIsNarrowest
remainder_narrowest y n = by (is_zero (low_of y) (high_of y)) refl
    (λ v i b. remainder_sound y b.0 v b.1.held b.1.in_range i b.2)
  where
    P : ℤ → Type 0
    P = BelongsToOne IsRemainder y

    l : ℤ
    l = low_of y

    h : ℤ
    h = high_of y

    least_in : (a : ℤ) → IsInRange a → IsInRange (int_min (a +ℤ pos 1) (pos 0))
    least_in a r = (omega (arith, ints, clamps, r.0), omega (arith, ints, clamps))

    greatest_in : (a : ℤ) → IsInRange a → IsInRange (int_max (a -ℤ pos 1) (pos 0))
    greatest_in a r = (omega (arith, ints, clamps), omega (arith, ints, clamps, r.1))

    after : (a : ℤ) → a <ℤ pos 0 → IsRemainder a (int_min (a +ℤ pos 1) (pos 0))
    after a p = inr (omega (arith, ints, clamps), omega (arith, ints, clamps))

    before : (a : ℤ) → pos 0 <ℤ a → IsRemainder a (int_max (a -ℤ pos 1) (pos 0))
    before a p = inl (omega (arith, ints, clamps), omega (arith, ints, clamps))

    from_above : (a b : ℤ) → pos 0 ≤ℤ a → pos 0 <ℤ b → IsRemainder b (int_min (a +ℤ pos 1) (pos 0))
    from_above a b p q = inl (omega (arith, ints, clamps), omega (arith, ints, clamps))

    from_below : (a b : ℤ) → a ≤ℤ pos 0 → b <ℤ pos 0 → IsRemainder b (int_max (a -ℤ pos 1) (pos 0))
    from_below a b p q = inr (omega (arith, ints, clamps), omega (arith, ints, clamps))

    least_is : is_zero l h ≡ false → P (int_min (l +ℤ pos 1) (pos 0))
    least_is e = by_lt_z l (pos 0) (λ k. (l, low_left y n, after l k))
        (λ k. (h, high_left y n, from_above l h k (above_zero l h e k)))

    greatest_is : is_zero l h ≡ false → P (int_max (h -ℤ pos 1) (pos 0))
    greatest_is e = by_lt_z (pos 0) h (λ k. (h, high_left y n, before h k))
        (λ k. (l, low_left y n, from_below h l k (below_zero l h e k)))

    by : (t : Bool) → is_zero l h ≡ t
        → ((v : ℤ) → IsInRange v → P v → Holds (if t then Contradiction
        else known (int_min (l +ℤ pos 1) (pos 0)) (int_max (h -ℤ pos 1) (pos 0))) (Number v))
        → IsNarrowest P (if t then Contradiction
        else known (int_min (l +ℤ pos 1) (pos 0)) (int_max (h -ℤ pos 1) (pos 0)))
    by true e holds = none P holds
    by false e holds = reached P (int_min (l +ℤ pos 1) (pos 0)) (int_max (h -ℤ pos 1) (pos 0)) _
        holds (λ v i k. known_from _ _ v i k) (least_in l (low_left y n).in_range) (least_is e)
        (greatest_in h (high_left y n).in_range) (greatest_is e)

-- ---- and back to the divisor

pub divisor_narrowest : DivisorIsNarrowest
divisor_narrowest r y n m =
    narrowed_narrowest P _ (same (λ v. Above v ⊎ Below v) P _ to from
    (hull_narrowest Above Below (divisors_above r y) (divisors_below r y)
    (above_kind (int_lt (high_of r) (pos 0))) (below_kind (int_lt (pos 0) (low_of r)))
    (exact Above _ (λ v i b. above_holds v b (int_lt (high_of r) (pos 0)) refl)
    (λ v i k. above_from v (int_lt (high_of r) (pos 0)) refl k))
    (exact Below _ (λ v i b. below_holds v b (int_lt (pos 0) (low_of r)) refl)
    (λ v i k. below_from v (int_lt (pos 0) (low_of r)) refl k))))
  where
    P : ℤ → Type 0
    P = BelongsToTwo (λ r y v. (v ≡ y) × IsRemainder y r) r y

    Above : ℤ → Type 0
    Above v = P v × (pos 0 ≤ℤ v)

    Below : ℤ → Type 0
    Below v = P v × (v ≤ℤ pos 0)

    to : (v : ℤ) → IsInRange v → Above v ⊎ Below v → P v
    to v i (inl b) = b.0
    to v i (inr b) = b.0

    from : (v : ℤ) → IsInRange v → P v → Above v ⊎ Below v
    from v i p = by_lt_z v (pos 0) (λ l. inr (p, omega (arith, ints))) (λ l. inl (p, l))

    o : AreOrdered (low_of r) (high_of r)
    o = ends_ordered r

    above_kind : (t : Bool) → IsOf kinds.Span 0 (if t then Contradiction
        else part_of y (int_max (low_of r) (pos 0) +ℤ pos 1) B)
    above_kind true = tt
    above_kind false = part_kind 0 y (int_max (low_of r) (pos 0) +ℤ pos 1) B

    below_kind : (t : Bool) → IsOf kinds.Span 0 (if t then Contradiction
        else part_of y (neg_ℤ B) (int_min (high_of r) (pos 0) -ℤ pos 1))
    below_kind true = tt
    below_kind false = part_kind 0 y (neg_ℤ B) (int_min (high_of r) (pos 0) -ℤ pos 1)

    is_in : (v : ℤ) → P v → IsBetween y v
    is_in v p = rw p.4.0 (held_between y p.1 p.3.held p.3.in_range)

    left : (v : ℤ) (p : P v) → IsBetween r p.0
    left v p = held_between r p.0 p.2.held p.2.in_range

    leaves : (v : ℤ) (p : P v) → IsRemainder v p.0
    leaves v p = rw p.4.0 p.4.1

    -- what is left by a number above zero, and by one below it
    sign_above : (v w : ℤ) → IsRemainder v w → pos 0 ≤ℤ v → (pos 0 ≤ℤ w) × (w <ℤ v)
    sign_above v w (inl e) p = e
    sign_above v w (inr e) p = absurd (omega (arith, ints, e.0, e.1))

    sign_below : (v w : ℤ) → IsRemainder v w → v ≤ℤ pos 0 → (v <ℤ w) × (w ≤ℤ pos 0)
    sign_below v w (inl e) p = absurd (omega (arith, ints, e.0, e.1))
    sign_below v w (inr e) p = e

    further : (l v w : ℤ) → l ≤ℤ w → pos 0 ≤ℤ w → w <ℤ v → (int_max l (pos 0) +ℤ pos 1) ≤ℤ v
    further l v w p q s = omega (arith, ints, clamps)

    lower : (h v w : ℤ) → w ≤ℤ h → w ≤ℤ pos 0 → v <ℤ w → v ≤ℤ (int_min h (pos 0) -ℤ pos 1)
    lower h v w p q s = omega (arith, ints, clamps)

    above_holds : (v : ℤ) → Above v → (t : Bool) → int_lt (high_of r) (pos 0) ≡ t
        → Holds (if t then Contradiction
        else part_of y (int_max (low_of r) (pos 0) +ℤ pos 1) B) (Number v)
    above_holds v b true e =
        let s = sign_above v b.0.0 (leaves v b.0) b.1 in
        absurd (clash (high_of r) b.0.0 e s.0 (left v b.0).to)
      where
        clash : (h w : ℤ) → int_lt h (pos 0) ≡ true → pos 0 ≤ℤ w → w ≤ℤ h → ⊥
        clash h w e p q = omega (arith, ints)
    above_holds v b false e =
        let s = sign_above v b.0.0 (leaves v b.0) b.1 in
        part_holds y _ _ v (is_in v b.0) (further (low_of r) v b.0.0 (left v b.0).from s.0 s.1)
        (top (high_of y) (is_in v b.0).to (ends_ordered y).below)
      where
        top : (h : ℤ) → v ≤ℤ h → h ≤ℤ B → v ≤ℤ B
        top h p q = omega (arith, ints)

    below_holds : (v : ℤ) → Below v → (t : Bool) → int_lt (pos 0) (low_of r) ≡ t
        → Holds (if t then Contradiction
        else part_of y (neg_ℤ B) (int_min (high_of r) (pos 0) -ℤ pos 1)) (Number v)
    below_holds v b true e =
        let s = sign_below v b.0.0 (leaves v b.0) b.1 in
        absurd (clash (low_of r) b.0.0 e s.1 (left v b.0).from)
      where
        clash : (l w : ℤ) → int_lt (pos 0) l ≡ true → w ≤ℤ pos 0 → l ≤ℤ w → ⊥
        clash l w e p q = omega (arith, ints)
    below_holds v b false e =
        let s = sign_below v b.0.0 (leaves v b.0) b.1 in
        part_holds y _ _ v (is_in v b.0)
        (bottom (low_of y) (is_in v b.0).from (ends_ordered y).above)
        (lower (high_of r) v b.0.0 (left v b.0).to s.1 s.0)
      where
        bottom : (l : ℤ) → l ≤ℤ v → neg_ℤ B ≤ℤ l → neg_ℤ B ≤ℤ v
        bottom l p q = omega (arith, ints)

    above_from : (v : ℤ) → (t : Bool) → int_lt (high_of r) (pos 0) ≡ t
        → Holds (if t then Contradiction
        else part_of y (int_max (low_of r) (pos 0) +ℤ pos 1) B) (Number v) → Above v
    above_from v true e k = absurd k
    above_from v false e k =
        let f = part_from y (int_max (low_of r) (pos 0) +ℤ pos 1) B v k in
        let w = parts (low_of r) (high_of r) e o.ordered f.1.0 in (
          (
            int_max (low_of r) (pos 0),
            v,
            between_left r (int_max (low_of r) (pos 0)) n w.0 w.1,
            between_left y v m f.0.0 f.0.1,
            (refl, inl (w.2, w.3)),
          ),
          w.4,
        )
      where
        parts : (l h : ℤ) → int_lt h (pos 0) ≡ false → l ≤ℤ h → (int_max l (pos 0) +ℤ pos 1) ≤ℤ v
            → (l ≤ℤ int_max l (pos 0)) × (int_max l (pos 0) ≤ℤ h) × (pos 0 ≤ℤ int_max l (pos 0))
            × (int_max l (pos 0) <ℤ v) × (pos 0 ≤ℤ v)
        parts l h e p q = (
          omega (arith, ints, clamps),
          omega (arith, ints, clamps),
          omega (arith, ints, clamps),
          omega (arith, ints, clamps),
          omega (arith, ints, clamps),
        )

    below_from : (v : ℤ) → (t : Bool) → int_lt (pos 0) (low_of r) ≡ t
        → Holds (if t then Contradiction
        else part_of y (neg_ℤ B) (int_min (high_of r) (pos 0) -ℤ pos 1)) (Number v) → Below v
    below_from v true e k = absurd k
    below_from v false e k =
        let f = part_from y (neg_ℤ B) (int_min (high_of r) (pos 0) -ℤ pos 1) v k in
        let w = parts (low_of r) (high_of r) e o.ordered f.1.1 in (
          (
            int_min (high_of r) (pos 0),
            v,
            between_left r (int_min (high_of r) (pos 0)) n w.0 w.1,
            between_left y v m f.0.0 f.0.1,
            (refl, inr (w.2, w.3)),
          ),
          w.4,
        )
      where
        parts : (l h : ℤ) → int_lt (pos 0) l ≡ false → l ≤ℤ h → v ≤ℤ (int_min h (pos 0) -ℤ pos 1)
            → (l ≤ℤ int_min h (pos 0)) × (int_min h (pos 0) ≤ℤ h) × (v <ℤ int_min h (pos 0))
            × (int_min h (pos 0) ≤ℤ pos 0) × (v ≤ℤ pos 0)
        parts l h e p q = (
          omega (arith, ints, clamps),
          omega (arith, ints, clamps),
          omega (arith, ints, clamps),
          omega (arith, ints, clamps),
          omega (arith, ints, clamps),
        )
