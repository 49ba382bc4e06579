-- Quotients are answered as narrowly as can be.
use Rattle.std.specs.Prelude.{◌≡◌, ℤ, pos, neg_ℤ, ◌+ℤ◌, ◌*ℤ◌, ◌≤ℤ◌, ◌<ℤ◌, ◌⊎◌, Bool, true, false}
use Rattle.std.specs.Prelude.{int_le, int_lt, if◌then◌else◌}
use Rattle.std.specs.Int.{int_max}
use Rattle.std.proofs.Common.{arith, refl, inl, inr, ap, ◌∙◌}
use lib.IntN.{*ℤ_comm}
use Rattle.std.proofs.lemmas.Int.{ints, clamps}
use Rattle.prop_intervals.specs.Clip.{clip}
use Rattle.prop_intervals.specs.inner.Parts.{int_div_floor}
use Rattle.prop_intervals.specs.laws.QuotientLaws.{floor-lt, floor-parts, le-floor, neg-product}
use Rattle.prop_intervals.specs.laws.QuotientLaws.{product-ge, product-le}
use Rattle.prop_intervals.specs.laws.Relations.{IsInRange}
use Rattle.prop_lattice.specs.Points.{Number, Holds}
use Rattle.prop_lattice.specs.declared.span.TheConstants.{B}
use Rattle.prop_lattice.specs.declared.span.Span as spans
use Rattle.prop_lattice.specs.declared.info.Info.TheVariants.{Span}
use Rattle.prop_lattice.specs.declared.info.Info.TheVariants.{Contradiction}
use Rattle.prop_wide.specs.Ends.{low_of, high_of}
use Rattle.prop_wide.specs.Narrowest.{IsNarrowest, BelongsToTwo}
use Rattle.prop_wide.specs.Narrowest.{QuotientIsNarrowest}
use Rattle.prop_wide.specs.Quotients.{IsQuotient, least_quotient, greatest_quotient}
use Rattle.prop_wide.specs.Quotients.{quotients_of}
use Rattle.prop_wide.specs.laws.EndLaws.{AreOrdered, ends_ordered, held_between}
use Rattle.prop_wide.specs.laws.QuotientLaws.{one_above, quotients_hold, quotients_kind}
use Rattle.prop_wide.specs.laws.NarrowestLaws.{range_of_ends, between_left, clip_from, same}
use Rattle.prop_wide.specs.laws.NarrowestLaws.{hull_narrowest, narrowed_narrowest}

-- w is the quotient of a number from lo to hi by one from c to d
abbrev IsQuotientOf : ℤ → ℤ → ℤ → ℤ → ℤ → Type 0
IsQuotientOf lo hi c d w = (u : ℤ) × (v : ℤ) × ((lo ≤ℤ u) × (u ≤ℤ hi)) × ((c ≤ℤ v) × (v ≤ℤ d))
    × ((w *ℤ v) ≤ℤ u) × (u <ℤ ((w *ℤ v) +ℤ v))

-- a quotient is no further from zero than what is divided
quotient_in : (a d : ℤ) → pos 0 <ℤ d → IsInRange a → IsInRange (int_div_floor a d)
quotient_in a d p r = (
  le-floor a d (neg_ℤ B) p (through _ (neg_ℤ B) a (smaller (neg_ℤ B) d (omega
      (arith, ints)) p) r.0),
  less (int_div_floor a d) (floor-lt a d (B +ℤ pos 1) p
      (below a ((B +ℤ pos 1) *ℤ d) r.1 (larger (B +ℤ pos 1) d (omega (arith, ints)) p))),
)
  where
    through : (a b c : ℤ) → a ≤ℤ b → b ≤ℤ c → a ≤ℤ c
    through a b c p q = omega (arith, ints)

    one_times : (v : ℤ) → (pos 1 *ℤ v) ≡ v
    one_times v = omega (arith, ints)

    smaller : (a d : ℤ) → a ≤ℤ pos 0 → pos 0 <ℤ d → (a *ℤ d) ≤ℤ a
    smaller a d p q = rw (*ℤ_comm a d) (through (d *ℤ a) (pos 1 *ℤ a) a
        (product-ge (pos 1) d a (omega (arith, ints)) p) (omega (arith, ints)))

    larger : (a d : ℤ) → pos 0 ≤ℤ a → pos 0 <ℤ d → a ≤ℤ (a *ℤ d)
    larger a d p q = rw (*ℤ_comm a d) (through a (pos 1 *ℤ a) (d *ℤ a) (omega (arith, ints))
        (product-le (pos 1) d a (omega (arith, ints)) p))

    below : (a m : ℤ) → a ≤ℤ B → (B +ℤ pos 1) ≤ℤ m → a <ℤ m
    below a m p q = omega (arith, ints)

    less : (q : ℤ) → q <ℤ (B +ℤ pos 1) → q ≤ℤ B
    less q p = omega (arith, ints)

quotients_from : (lo hi c d v : ℤ) → Holds (quotients_of lo hi c d) (Number v)
    → (c ≤ℤ d) × (least_quotient lo c d ≤ℤ v) × (v ≤ℤ greatest_quotient hi c d)
unfolding quotients_of
quotients_from lo hi c d v h = by (int_lt d c) refl h
  where
    by : (t : Bool) → int_lt d c ≡ t → Holds (if t then Contradiction
        else clip (least_quotient lo c d) (greatest_quotient hi c d)) (Number v)
        → (c ≤ℤ d) × (least_quotient lo c d ≤ℤ v) × (v ≤ℤ greatest_quotient hi c d)
    by true e h = absurd h
    by false e h =
        let f = clip_from (least_quotient lo c d) (greatest_quotient hi c d) v h in
        (omega (arith, ints), f.0, f.1)

quotients_narrowest : (lo hi c d : ℤ) → pos 0 <ℤ c → lo ≤ℤ hi → IsInRange lo → IsInRange hi
    → IsNarrowest (IsQuotientOf lo hi c d) (quotients_of lo hi c d)
quotients_narrowest lo hi c d z o lo_in hi_in = record { holds = holds; within = within }
  where
    P : ℤ → Type 0
    P = IsQuotientOf lo hi c d

    holds : (w : ℤ) → IsInRange w → P w → Holds (quotients_of lo hi c d) (Number w)
    holds w i b =
        quotients_hold lo hi c d b.0 b.1 w z b.2.0 b.2.1 b.3.0 b.3.1 i b.4 b.5

    at : (u v : ℤ) → pos 0 <ℤ v → lo ≤ℤ u → u ≤ℤ hi → c ≤ℤ v → v ≤ℤ d → P (int_div_floor u v)
    at u v p a b e f =
        let parts = floor-parts u v p in (u, v, (a, b), (e, f), parts.0, parts.1)

    least : c ≤ℤ d → IsInRange (least_quotient lo c d) × P (least_quotient lo c d)
    least l = by (int_le (pos 0) lo)
      where
        by : (t : Bool) → IsInRange (if t then int_div_floor lo d else int_div_floor lo c)
            × P (if t then int_div_floor lo d else int_div_floor lo c)
        by true = (
          quotient_in lo d (omega (arith, ints)) lo_in,
          at lo d (omega (arith, ints)) (omega (arith, ints)) o l (omega (arith, ints)),
        )
        by false = (
          quotient_in lo c z lo_in,
          at lo c z (omega (arith, ints)) o (omega
              (arith, ints)) l,
        )

    greatest : c ≤ℤ d → IsInRange (greatest_quotient hi c d) × P (greatest_quotient hi c d)
    greatest l = by (int_le (pos 0) hi)
      where
        by : (t : Bool) → IsInRange (if t then int_div_floor hi c else int_div_floor hi d)
            × P (if t then int_div_floor hi c else int_div_floor hi d)
        by true = (
          quotient_in hi c z hi_in,
          at hi c z o (omega (arith, ints)) (omega
              (arith, ints)) l,
        )
        by false = (
          quotient_in hi d (omega (arith, ints)) hi_in,
          at hi d (omega (arith, ints)) o (omega (arith, ints)) l (omega (arith, ints)),
        )

    within : (s : spans.Span) → ((v : ℤ) → IsInRange v → P v → Holds (Span s) (Number v)) → (v : ℤ)
        → IsInRange v → Holds (quotients_of lo hi c d) (Number v) → Holds (Span s) (Number v)
    within s h v i k =
        let f = quotients_from lo hi c d v k in
        let first = least f.0 in
        let last = greatest f.0 in
        let a = h _ first.0 first.1 in
        let b = h _ last.0 last.1 in (
          through s.lo (least_quotient lo c d) v a.0 f.1,
          through v
              (greatest_quotient hi c d) s.hi f.2 b.1,
        )
      where
        through : (a b c : ℤ) → a ≤ℤ b → b ≤ℤ c → a ≤ℤ c
        through a b c p q = omega (arith, ints)

pub quotient_narrowest : QuotientIsNarrowest
quotient_narrowest x y n m =
    narrowed_narrowest P _ (same (λ w. Above w ⊎ Below w) P _ to from
    (hull_narrowest Above Below
    (quotients_of (low_of x) (high_of x) (int_max (low_of y) (pos 1)) (high_of y))
    (quotients_of (neg_ℤ (high_of x)) (neg_ℤ (low_of x)) (int_max (neg_ℤ (high_of y)) (pos 1))
    (neg_ℤ (low_of y)))
    (quotients_kind (low_of x) (high_of x) (int_max (low_of y) (pos 1)) (high_of y))
    (quotients_kind (neg_ℤ (high_of x)) (neg_ℤ (low_of x)) (int_max (neg_ℤ (high_of y)) (pos 1))
    (neg_ℤ (low_of y)))
    (quotients_narrowest (low_of x) (high_of x) (int_max (low_of y) (pos 1)) (high_of y)
    (one_above (low_of y)) o.ordered (range_of_ends x).0 (range_of_ends x).1)
    (quotients_narrowest (neg_ℤ (high_of x)) (neg_ℤ (low_of x)) (int_max (neg_ℤ (high_of y))
    (pos 1))
    (neg_ℤ (low_of y)) (one_above (neg_ℤ (high_of y))) (turned _ _ o.ordered)
    (opposite_in (high_of x) (range_of_ends x).1) (opposite_in (low_of x) (range_of_ends x).0))))
  where
    o : AreOrdered (low_of x) (high_of x)
    o = ends_ordered x

    P : ℤ → Type 0
    P = BelongsToTwo IsQuotient x y

    Above : ℤ → Type 0
    Above = IsQuotientOf (low_of x) (high_of x) (int_max (low_of y) (pos 1)) (high_of y)

    Below : ℤ → Type 0
    Below = IsQuotientOf (neg_ℤ (high_of x)) (neg_ℤ (low_of x)) (int_max (neg_ℤ (high_of y))
        (pos 1))
        (neg_ℤ (low_of y))

    turned : (a b : ℤ) → a ≤ℤ b → neg_ℤ b ≤ℤ neg_ℤ a
    turned a b p = omega (arith, ints)

    opposite_in : (a : ℤ) → IsInRange a → IsInRange (neg_ℤ a)
    opposite_in a r = (omega (arith, ints, r.1), omega (arith, ints, r.0))

    parts : (l v : ℤ) → int_max l (pos 1) ≤ℤ v → (l ≤ℤ v) × (pos 0 <ℤ v)
    parts l v p = (omega (arith, ints, clamps), omega (arith, ints, clamps))

    whole : (l v : ℤ) → l ≤ℤ v → pos 0 <ℤ v → int_max l (pos 1) ≤ℤ v
    whole l v p q = omega (arith, ints, clamps)

    back : (w v : ℤ) → (w *ℤ neg_ℤ v) ≡ neg_ℤ (w *ℤ v)
    back w v = *ℤ_comm w (neg_ℤ v) ∙ neg-product v w ∙ ap neg_ℤ (*ℤ_comm v w)

    to : (w : ℤ) → IsInRange w → Above w ⊎ Below w → P w
    to w i (inl b) =
        let e = parts (low_of y) b.1 b.3.0 in (
          b.0,
          b.1,
          between_left x b.0 n b.2.0 b.2.1,
          between_left y b.1 m e.0 b.3.1,
          inl (e.1, b.4, b.5),
        )
    to w i (inr b) =
        let e = parts (neg_ℤ (high_of y)) b.1 b.3.0 in (
          neg_ℤ b.0,
          neg_ℤ b.1,
          between_left x (neg_ℤ b.0) n (flipped (low_of x) b.0 b.2.1) (lifted
              (high_of x) b.0 b.2.0),
          between_left y (neg_ℤ b.1) m (flipped (low_of y) b.1 b.3.1) (lifted (high_of y) b.1 e.0),
          inr (
            omega (arith, ints, e.1),
            over (w *ℤ b.1) (w *ℤ neg_ℤ b.1) b.0 (back w b.1) b.4,
            under (w *ℤ b.1) (w *ℤ neg_ℤ b.1) b.0 b.1 (back w b.1) b.5,
          ),
        )
      where
        flipped : (a v : ℤ) → v ≤ℤ neg_ℤ a → a ≤ℤ neg_ℤ v
        flipped a v p = omega (arith, ints)

        lifted : (a v : ℤ) → neg_ℤ a ≤ℤ v → neg_ℤ v ≤ℤ a
        lifted a v p = omega (arith, ints)

        over : (s t u : ℤ) → t ≡ neg_ℤ s → s ≤ℤ u → neg_ℤ u ≤ℤ t
        over s t u e p = omega (arith, ints)

        under : (s t u v : ℤ) → t ≡ neg_ℤ s → u <ℤ (s +ℤ v) → (t +ℤ neg_ℤ v) <ℤ neg_ℤ u
        under s t u v e p = omega (arith, ints)

    from : (w : ℤ) → IsInRange w → P w → Above w ⊎ Below w
    from w i p =
        let a = held_between x p.0 p.2.held p.2.in_range in
        let b = held_between y p.1 p.3.held p.3.in_range in
        by a.from a.to b.from b.to p.4
      where
        over : (s t u : ℤ) → t ≡ neg_ℤ s → u ≤ℤ s → t ≤ℤ neg_ℤ u
        over s t u e p = omega (arith, ints)

        under : (s t u v : ℤ) → t ≡ neg_ℤ s → (s +ℤ v) <ℤ u → neg_ℤ u <ℤ (t +ℤ neg_ℤ v)
        under s t u v e p = omega (arith, ints)

        by : low_of x ≤ℤ p.0 → p.0 ≤ℤ high_of x → low_of y ≤ℤ p.1 → p.1 ≤ℤ high_of y
            → IsQuotient p.0 p.1 w → Above w ⊎ Below w
        by xl xh yl yh (inl q) =
            inl (p.0, p.1, (xl, xh), (whole (low_of y) p.1 yl q.0, yh), q.1, q.2)
        by xl xh yl yh (inr q) = inr (
          neg_ℤ p.0,
          neg_ℤ p.1,
          (turned _ _ xh, turned _ _ xl),
          (
            whole (neg_ℤ (high_of y)) (neg_ℤ p.1) (turned _ _ yh) (omega (arith, ints, q.0)),
            turned _ _ yl,
          ),
          over (w *ℤ p.1) (w *ℤ neg_ℤ p.1) p.0 (back w p.1) q.1,
          under (w *ℤ p.1) (w *ℤ neg_ℤ p.1) p.0 p.1 (back w p.1) q.2,
        )
