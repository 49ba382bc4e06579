-- What the functions beside the kit's answer to single numbers.
use Rattle.std.specs.Prelude.{◌≡◌, ◌⊎◌, ◌≤◌, ℤ, pos, neg_ℤ, ◌+ℤ◌, ◌-ℤ◌, ◌*ℤ◌, ◌≤ℤ◌, ◌<ℤ◌, Bool, true, false}
use Rattle.std.specs.Prelude.{◌&&◌, if◌then◌else◌, int_lt, int_le, unsigned_abs}
use Rattle.std.specs.Int.{int_max, int_min}
use Rattle.std.proofs.Common.{arith, refl, ap, sym, subst, ◌∙◌, inl, inr}
use Rattle.std.proofs.lemmas.Int.{ints, clamps, by_lt_z}
use Rattle.prop_intervals.specs.inner.Parts.{int_div_floor}
use Rattle.prop_intervals.specs.inner.Roots.{least_root, greatest_root}
use Rattle.prop_intervals.specs.laws.QuotientLaws.{floor-parts, neg-product, product-add, product-le}
use Rattle.prop_intervals.specs.laws.Relations.{IsInRange}
use Rattle.prop_intervals.specs.laws.RootLaws.{least_root-to, greatest_root-to}
use Rattle.prop_lattice.proofs.EndLemmas.{span_from-ends}
use Rattle.prop_lattice.specs.Points.{Number, Holds}
use Rattle.prop_lattice.specs.Rank.{IsOf}
use Rattle.prop_lattice.specs.declared.info.Info.{Info}
use Rattle.prop_lattice.specs.declared.info.Info.TheVariants.{Nothing, Span, Set, Sym, Contradiction}
use Rattle.prop_lattice.specs.declared.info.Kind.TheVariants as kinds
use Rattle.prop_lattice.specs.declared.span.Span as spans
use Rattle.prop_lattice.specs.declared.span.TheConstants.{B}
use Rattle.prop_wide.specs.Distances.{IsDistance, abs_of, abs_back_of, at_distance}
use Rattle.prop_wide.specs.Ends.{known, part_of}
use Rattle.prop_wide.specs.Extremes.{max_of, max_back_of, min_of, min_back_of}
use Rattle.prop_wide.specs.Hulls.{hull_of, narrowed}
use Rattle.prop_wide.specs.Narrowest.{IsNarrowest, IsNumber, BelongsToTwo}
use Rattle.prop_wide.specs.Quotients.{IsQuotient, IsRemainder, quotient_of, remainder_of, divisor_of, divisors_above}
use Rattle.prop_wide.specs.Quotients.{divisors_below}
use Rattle.prop_wide.specs.Squares.{IsSquareBy, square_of, root_of, times_itself, least_square, greatest_square}
use Rattle.prop_wide.specs.laws.EndLaws.{part_kind}
use Rattle.prop_wide.specs.laws.NarrowestLaws.{known_from, part_from, span_from_from}
use Rattle.prop_wide.specs.laws.QuotientNarrowest.{quotient_narrowest}
use Rattle.prop_points.specs.Singles.{IsSingle}
use Rattle.prop_points.proofs.Numbers.{product_exact}
use lib.IntN.{*ℤ_comm}

-- ---- the larger and the smaller

pub max_exact : (a b : spans.Span) (x y z : ℤ) → IsInRange z → IsSingle (Span a) (Number x)
    → IsSingle (Span b) (Number y) → Holds (max_of (Span a) (Span b)) (Number z) → z ≡ int_max x y
max_exact a b x y z r e f h =
    let held = known_from _ _ z r h in omega (arith, ints, clamps, e.0, e.1, f.0, f.1, held.0, held.1)

pub min_exact : (a b : spans.Span) (x y z : ℤ) → IsInRange z → IsSingle (Span a) (Number x)
    → IsSingle (Span b) (Number y) → Holds (min_of (Span a) (Span b)) (Number z) → z ≡ int_min x y
min_exact a b x y z r e f h =
    let held = known_from _ _ z r h in omega (arith, ints, clamps, e.0, e.1, f.0, f.1, held.0, held.1)

pub max_back_exact : (a b : spans.Span) (z y x : ℤ) → IsInRange x → IsSingle (Span a) (Number z)
    → IsSingle (Span b) (Number y) → Holds (max_back_of (Span a) (Span b)) (Number x) → z ≡ int_max x y
max_back_exact a b z y x r e f h = by (int_lt a.hi b.lo) refl (int_lt b.hi a.lo) refl h
  where
    by : (s : Bool) → int_lt a.hi b.lo ≡ s → (t : Bool) → int_lt b.hi a.lo ≡ t
        → Holds (if s then Contradiction else known (if t then a.lo else neg_ℤ B) a.hi) (Number x)
        → z ≡ int_max x y
    by true g t k h = absurd h
    by false g true k h =
        let held = known_from _ _ x r h in
        omega (arith, ints, clamps, e.0, e.1, f.0, f.1, held.0, held.1)
    by false g false k h =
        let held = known_from _ _ x r h in
        omega (arith, ints, clamps, e.0, e.1, f.0, f.1, held.0, held.1)

pub min_back_exact : (a b : spans.Span) (z y x : ℤ) → IsInRange x → IsSingle (Span a) (Number z)
    → IsSingle (Span b) (Number y) → Holds (min_back_of (Span a) (Span b)) (Number x) → z ≡ int_min x y
min_back_exact a b z y x r e f h = by (int_lt b.hi a.lo) refl (int_lt a.hi b.lo) refl h
  where
    by : (s : Bool) → int_lt b.hi a.lo ≡ s → (t : Bool) → int_lt a.hi b.lo ≡ t
        → Holds (if s then Contradiction else known a.lo (if t then a.hi else B)) (Number x) → z ≡ int_min x y
    by true g t k h = absurd h
    by false g true k h =
        let held = known_from _ _ x r h in
        omega (arith, ints, clamps, e.0, e.1, f.0, f.1, held.0, held.1)
    by false g false k h =
        let held = known_from _ _ x r h in
        omega (arith, ints, clamps, e.0, e.1, f.0, f.1, held.0, held.1)

-- ---- one or the other

-- where each of two leaves x alone, for a reason of its own, so do both
pub hull_of_points : (P Q : Type 0) (a b : Info) (x : ℤ) → IsOf kinds.Span 0 a → IsOf kinds.Span 0 b
    → ((v : ℤ) → Holds a (Number v) → (v ≡ x) × P) → ((v : ℤ) → Holds b (Number v) → (v ≡ x) × Q) → (v : ℤ)
    → Holds (hull_of a b) (Number v) → (v ≡ x) × (P ⊎ Q)
hull_of_points P Q Contradiction b x k l p q v h = ((q v h).0, inr (q v h).1)
hull_of_points P Q (Span s) Contradiction x k l p q v h = ((p v h).0, inl (p v h).1)
hull_of_points P Q (Span s) (Span t) x k l p q v h =
    let held = span_from_from _ _ v h in
    let first = p s.lo (omega (arith, ints), s.ordered) in
    let last = p s.hi (s.ordered, omega (arith, ints)) in
    let second_first = q t.lo (omega (arith, ints), t.ordered) in
    let second_last = q t.hi (t.ordered, omega (arith, ints)) in (
      omega (arith, ints, clamps, held.0, held.1, first.0, last.0, second_first.0, second_last.0),
      inl first.1,
    )
hull_of_points P Q Nothing b x k l p q v h =
    absurd (omega (arith, ints, (p (pos 0) tt).0, (p (pos 1) tt).0))
hull_of_points P Q (Span s) Nothing x k l p q v h =
    absurd (omega (arith, ints, (q (pos 0) tt).0, (q (pos 1) tt).0))
hull_of_points P Q (Set s) b x k l p q v h = absurd k
hull_of_points P Q (Sym s) b x k l p q v h = absurd k
hull_of_points P Q (Span s) (Set t) x k l p q v h = absurd l
hull_of_points P Q (Span s) (Sym t) x k l p q v h = absurd l

pub narrowed_from : (a : Info) (v : ℤ) → IsInRange v → Holds (narrowed a) (Number v) → Holds a (Number v)
narrowed_from (Span s) v r h = known_from s.lo s.hi v r h
narrowed_from Nothing v r h = h
narrowed_from (Set s) v r h = h
narrowed_from (Sym s) v r h = h
narrowed_from Contradiction v r h = h

-- the numbers of a single one from lo to hi are that one, where it lies between
part_exact : (a : spans.Span) (x lo hi : ℤ) → IsSingle (Span a) (Number x) → (v : ℤ)
    → Holds (part_of (Span a) lo hi) (Number v) → (v ≡ x) × ((lo ≤ℤ x) × (x ≤ℤ hi))
part_exact a x lo hi e v h =
    let held = part_from (Span a) lo hi v h in
    let same : v ≡ x = omega (arith, ints, e.0, e.1, held.0.0, held.0.1) in
    (same, (omega (arith, ints, same, held.1.0), omega (arith, ints, same, held.1.1)))

-- ---- distances

pub abs_exact : (a : spans.Span) (x y : ℤ) → IsInRange y → IsSingle (Span a) (Number x)
    → Holds (abs_of (Span a)) (Number y) → IsDistance x y
abs_exact a x y r e h =
    let held = span_from_from _ _ y h in omega (arith, ints, clamps, e.0, e.1, held.0, held.1)

pub at_distance_exact : (a : spans.Span) (x near far v : ℤ) → IsInRange v → IsSingle (Span a) (Number x)
    → Holds (at_distance (Span a) near far) (Number v)
    → (v ≡ x) × (((neg_ℤ far ≤ℤ x) × (x ≤ℤ neg_ℤ near)) ⊎ ((near ≤ℤ x) × (x ≤ℤ far)))
at_distance_exact a x near far v r e h =
    hull_of_points ((neg_ℤ far ≤ℤ x) × (x ≤ℤ neg_ℤ near)) ((near ≤ℤ x) × (x ≤ℤ far))
    (part_of (Span a) (neg_ℤ far) (neg_ℤ near)) (part_of (Span a) near far) x
    (part_kind 0 (Span a) (neg_ℤ far) (neg_ℤ near)) (part_kind 0 (Span a) near far)
    (part_exact a x (neg_ℤ far) (neg_ℤ near) e) (part_exact a x near far e) v
    (narrowed_from _ v r h)

pub abs_back_exact : (b a : spans.Span) (y x v : ℤ) → IsInRange v → IsSingle (Span b) (Number y)
    → IsSingle (Span a) (Number x) → Holds (abs_back_of (Span b) (Span a)) (Number v) → (v ≡ x) × IsDistance x y
abs_back_exact b a y x v r e f h =
    let held = at_distance_exact a x (int_max b.lo (pos 0)) b.hi v r f h in
    (held.0, by held.1)
  where
    by : ((neg_ℤ b.hi ≤ℤ x) × (x ≤ℤ neg_ℤ (int_max b.lo (pos 0)))) ⊎ ((int_max b.lo (pos 0) ≤ℤ x) × (x ≤ℤ b.hi))
        → IsDistance x y
    by (inl p) = omega (arith, ints, clamps, e.0, e.1, p.0, p.1)
    by (inr p) = omega (arith, ints, clamps, e.0, e.1, p.0, p.1)

-- ---- squares and roots by a scale

opposite_square : (u : ℤ) → (neg_ℤ u *ℤ neg_ℤ u) ≡ (u *ℤ u)
opposite_square u =
    neg-product u (neg_ℤ u) ∙ ap neg_ℤ (*ℤ_comm u (neg_ℤ u) ∙ neg-product u u) ∙ twice (u *ℤ u)
  where
    twice : (v : ℤ) → neg_ℤ (neg_ℤ v) ≡ v
    twice v = omega (arith, ints)

distance_square : (u : ℤ) → (int_max u (neg_ℤ u) *ℤ int_max u (neg_ℤ u)) ≡ (u *ℤ u)
distance_square u = by_lt_z u (pos 0) (λ l. ap (λ w. w *ℤ w) (below l) ∙ opposite_square u)
    (λ l. ap (λ w. w *ℤ w) (above l))
  where
    below : u <ℤ pos 0 → int_max u (neg_ℤ u) ≡ neg_ℤ u
    below l = omega (arith, ints, clamps)

    above : pos 0 ≤ℤ u → int_max u (neg_ℤ u) ≡ u
    above l = omega (arith, ints, clamps)

pub square_exact : (k : ℤ) → pos 1 ≤ℤ k → (a : spans.Span) (x y : ℤ) → IsSingle (Span a) (Number x)
    → Holds (square_of k (Span a)) (Number y) → IsSquareBy k x y
square_exact k s a x y e h =
    subst (λ w. ((k *ℤ (y -ℤ pos 1)) <ℤ w) × (w <ℤ (k *ℤ (y +ℤ pos 1)))) (distance_square x)
    (product_exact k s far far m m y (refl, refl) (refl, refl)
    (subst (λ i. Holds (times_itself k i) (Number y)) is h))
  where
    m : ℤ
    m = int_max x (neg_ℤ x)

    far : spans.Span
    far = record {
      lo = m;
      hi = m;
      above = omega (arith, ints, clamps, e.0, a.above, a.below, a.ordered);
      ordered = omega (arith, ints);
      below = omega (arith, ints, clamps, e.0, e.1, a.above, a.below, a.ordered);
    }

    is : abs_of (Span a) ≡ Span far
    is = span_from-ends _ _ far (omega (arith, ints, clamps, e.0, e.1)) (omega (arith, ints, clamps, e.0, e.1))

pub root_exact : (k : ℤ) → pos 1 ≤ℤ k → (b a : spans.Span) (y x v : ℤ) → IsInRange v → IsSingle (Span b) (Number y)
    → IsSingle (Span a) (Number x) → Holds (root_of k (Span b) (Span a)) (Number v) → (v ≡ x) × IsSquareBy k x y
root_exact k s b a y x v r e f h = by (int_lt most (pos 0)) refl h
  where
    least : ℤ
    least = least_square k (Span b)

    most : ℤ
    most = greatest_square k (Span b)

    -- its square lies between
    between : (l m w : ℤ) → l ≡ (((y -ℤ pos 1) *ℤ k) +ℤ pos 1) → m ≡ (((y +ℤ pos 1) *ℤ k) -ℤ pos 1) → l ≤ℤ w
        → w ≤ℤ m → ((k *ℤ (y -ℤ pos 1)) <ℤ w) × (w <ℤ (k *ℤ (y +ℤ pos 1)))
    between l m w p q t u =
        rw (*ℤ_comm k (y -ℤ pos 1), *ℤ_comm k (y +ℤ pos 1)) (omega (arith, ints, p, t), omega (arith, ints, q, u))

    near : ((neg_ℤ (pos (greatest_root most)) ≤ℤ x) × (x ≤ℤ neg_ℤ (pos (least_root least))))
        ⊎ ((pos (least_root least) ≤ℤ x) × (x ≤ℤ pos (greatest_root most)))
        → (least_root least ≤ unsigned_abs x) × (unsigned_abs x ≤ greatest_root most)
    near (inl p) = (omega (arith, ints, p.0, p.1), omega (arith, ints, p.0, p.1))
    near (inr p) = (omega (arith, ints, p.0, p.1), omega (arith, ints, p.0, p.1))

    by : (t : Bool) → int_lt most (pos 0) ≡ t
        → Holds (if t then Contradiction else at_distance (Span a) (pos (least_root least))
        (pos (greatest_root most))) (Number v) → (v ≡ x) × IsSquareBy k x y
    by true g h = absurd h
    by false g h =
        let held = at_distance_exact a x (pos (least_root least)) (pos (greatest_root most)) v r f h in
        let far = near held.1 in (
          held.0,
          between least most (x *ℤ x) (ap (λ t. ((t -ℤ pos 1) *ℤ k) +ℤ pos 1) e.0)
              (ap (λ t. ((t +ℤ pos 1) *ℤ k) -ℤ pos 1) e.1) (least_root-to least x far.0)
              (greatest_root-to most x (omega (arith, ints)) far.1),
        )

-- ---- quotients

-- of single numbers what the narrowest holds is the only number that belongs to them
only_held : (P : ℤ → Type 0) (r : Info) → IsNarrowest P r → (w : ℤ)
    → ((v : ℤ) → IsInRange v → P v → v ≡ w) → (v : ℤ) → IsInRange v → Holds r (Number v) → v ≡ w
only_held P r n w only v i h =
    by_lt_z w (neg_ℤ B) (λ l. absurd (none (λ u j p. omega (arith, ints, j.0, only u j p, l))))
    (λ above. by_lt_z B w (λ l. absurd (none (λ u j p. omega (arith, ints, j.1, only u j p, l))))
    (λ below. one above below))
  where
    zero_alone : spans.Span
    zero_alone = record {
      lo = pos 0;
      hi = pos 0;
      above = omega (arith, ints);
      ordered = omega (arith, ints);
      below = omega (arith, ints);
    }

    one_alone : spans.Span
    one_alone = record {
      lo = pos 1;
      hi = pos 1;
      above = omega (arith, ints);
      ordered = omega (arith, ints);
      below = omega (arith, ints);
    }

    none : ((u : ℤ) → IsInRange u → P u → ⊥) → ⊥
    none f =
        let zero_held = n.within zero_alone (λ u j p. absurd (f u j p)) v i h in
        let one_held = n.within one_alone (λ u j p. absurd (f u j p)) v i h in
        omega (arith, ints, zero_held.1, one_held.0)

    one : neg_ℤ B ≤ℤ w → w ≤ℤ B → v ≡ w
    one above below =
        let held = n.within alone (λ u j p. (omega (arith, ints, only u j p), omega (arith, ints, only u j p))) v i h
        in omega (arith, ints, held.0, held.1)
      where
        alone : spans.Span
        alone = record {
          lo = w;
          hi = w;
          above = above;
          ordered = omega (arith, ints);
          below = below;
        }

-- numbers divided by one above zero, rounded down, are one
one_quotient : (x y p q : ℤ) → pos 0 <ℤ y → (p *ℤ y) ≤ℤ x → x <ℤ ((p *ℤ y) +ℤ y) → (q *ℤ y) ≤ℤ x
    → x <ℤ ((q *ℤ y) +ℤ y) → p ≡ q
one_quotient x y p q z a b c d =
    by_lt_z p q (λ l. absurd (less p q l a b c d)) (λ g. by_lt_z q p (λ l. absurd (less q p l c d a b))
    (λ k. omega (arith, ints, g, k)))
  where
    next : (p : ℤ) → ((p +ℤ pos 1) *ℤ y) ≡ ((p *ℤ y) +ℤ y)
    next p = product-add p (pos 1) y ∙ ap (λ t. (p *ℤ y) +ℤ t) once
      where
        once : (pos 1 *ℤ y) ≡ y
        once = omega (arith, ints)

    less : (p q : ℤ) → p <ℤ q → (p *ℤ y) ≤ℤ x → x <ℤ ((p *ℤ y) +ℤ y) → (q *ℤ y) ≤ℤ x
        → x <ℤ ((q *ℤ y) +ℤ y) → ⊥
    less p q l a b c d =
        over ((p *ℤ y) +ℤ y) (q *ℤ y)
        (subst (λ t. t ≤ℤ (q *ℤ y)) (next p)
        (product-le (p +ℤ pos 1) q y (omega (arith, ints, l)) (omega (arith, ints, z)))) b c
      where
        over : (s t : ℤ) → s ≤ℤ t → x <ℤ s → t ≤ℤ x → ⊥
        over s t u v w = omega (arith, ints)

pub quotient_exact : (a b : spans.Span) (x y q : ℤ) → IsInRange q → IsSingle (Span a) (Number x)
    → IsSingle (Span b) (Number y) → Holds (quotient_of (Span a) (Span b)) (Number q) → IsQuotient x y q
quotient_exact a b x y q r e f h =
    by_lt_z y (pos 0) negative (λ g. by_lt_z (pos 0) y positive (λ l. absurd (by_zero (omega (arith, ints, g, l)))))
  where
    P : ℤ → Type 0
    P = BelongsToTwo IsQuotient (Span a) (Span b)

    number : (s : spans.Span) → IsNumber (Span s)
    number s = record { of_kind = tt; clear = λ k. cc }

    narrowest : IsNarrowest P (quotient_of (Span a) (Span b))
    narrowest = quotient_narrowest (Span a) (Span b) (number a) (number b)

    -- what belongs to numbers of these belongs to x and y
    belongs : (v : ℤ) → P v → IsQuotient x y v
    belongs v p =
        let u_is : p.0 ≡ x = omega (arith, ints, e.0, e.1, p.2.held.0, p.2.held.1) in
        let v_is : p.1 ≡ y = omega (arith, ints, f.0, f.1, p.3.held.0, p.3.held.1) in
        subst (λ t. IsQuotient x t v) v_is (subst (λ t. IsQuotient t p.1 v) u_is p.4)

    positive : pos 0 <ℤ y → IsQuotient x y q
    positive z =
        let parts = floor-parts x y z in
        let is : q ≡ int_div_floor x y =
        only_held P (quotient_of (Span a) (Span b)) narrowest (int_div_floor x y)
        (λ v i p. only v (belongs v p)) q r h in
        inl (z, subst (λ t. (t *ℤ y) ≤ℤ x) (sym is) parts.0, subst (λ t. x <ℤ ((t *ℤ y) +ℤ y)) (sym is) parts.1)
      where
        only : (v : ℤ) → IsQuotient x y v → v ≡ int_div_floor x y
        only v (inl p) =
            let parts = floor-parts x y z in
            one_quotient x y v (int_div_floor x y) z p.1 p.2 parts.0 parts.1
        only v (inr p) = absurd (omega (arith, ints, z, p.0))

    negative : y <ℤ pos 0 → IsQuotient x y q
    negative z =
        let is : q ≡ int_div_floor (neg_ℤ x) (neg_ℤ y) =
        only_held P (quotient_of (Span a) (Span b)) narrowest (int_div_floor (neg_ℤ x) (neg_ℤ y))
        (λ v i p. only v (belongs v p)) q r h in
        let parts = floor-parts (neg_ℤ x) (neg_ℤ y) (omega (arith, ints, z)) in
        let turn = turned q (subst (λ t. (t *ℤ neg_ℤ y) ≤ℤ neg_ℤ x) (sym is) parts.0)
        (subst (λ t. neg_ℤ x <ℤ ((t *ℤ neg_ℤ y) +ℤ neg_ℤ y)) (sym is) parts.1) in
        inr (z, turn.0, turn.1)
      where
        opposite : (v : ℤ) → (v *ℤ neg_ℤ y) ≡ neg_ℤ (v *ℤ y)
        opposite v = *ℤ_comm v (neg_ℤ y) ∙ neg-product y v ∙ ap neg_ℤ (*ℤ_comm y v)

        turned : (v : ℤ) → (v *ℤ neg_ℤ y) ≤ℤ neg_ℤ x → neg_ℤ x <ℤ ((v *ℤ neg_ℤ y) +ℤ neg_ℤ y)
            → (x ≤ℤ (v *ℤ y)) × (((v *ℤ y) +ℤ y) <ℤ x)
        turned v p q =
            plain (v *ℤ y) (subst (λ t. t ≤ℤ neg_ℤ x) (opposite v) p)
            (subst (λ t. neg_ℤ x <ℤ (t +ℤ neg_ℤ y)) (opposite v) q)
          where
            plain : (t : ℤ) → neg_ℤ t ≤ℤ neg_ℤ x → neg_ℤ x <ℤ (neg_ℤ t +ℤ neg_ℤ y)
                → (x ≤ℤ t) × ((t +ℤ y) <ℤ x)
            plain t p q = (omega (arith, ints), omega (arith, ints))

        back : (v : ℤ) → x ≤ℤ (v *ℤ y) → ((v *ℤ y) +ℤ y) <ℤ x
            → ((v *ℤ neg_ℤ y) ≤ℤ neg_ℤ x) × (neg_ℤ x <ℤ ((v *ℤ neg_ℤ y) +ℤ neg_ℤ y))
        back v p q =
            rw (opposite v) (plain (v *ℤ y) p q)
          where
            plain : (t : ℤ) → x ≤ℤ t → (t +ℤ y) <ℤ x
                → (neg_ℤ t ≤ℤ neg_ℤ x) × (neg_ℤ x <ℤ (neg_ℤ t +ℤ neg_ℤ y))
            plain t p q = (omega (arith, ints), omega (arith, ints))

        only : (v : ℤ) → IsQuotient x y v → v ≡ int_div_floor (neg_ℤ x) (neg_ℤ y)
        only v (inl p) = absurd (omega (arith, ints, z, p.0))
        only v (inr p) =
            let parts = floor-parts (neg_ℤ x) (neg_ℤ y) (omega (arith, ints, z)) in
            let turn = back v p.1 p.2 in
            one_quotient (neg_ℤ x) (neg_ℤ y) v (int_div_floor (neg_ℤ x) (neg_ℤ y)) (omega (arith, ints, z)) turn.0
            turn.1 parts.0 parts.1

    by_zero : y ≡ pos 0 → ⊥
    by_zero z =
        let zero_is = only_held P (quotient_of (Span a) (Span b)) narrowest (pos 0)
        (λ v i p. none v (pos 0) (belongs v p)) q r h in
        let one_is = only_held P (quotient_of (Span a) (Span b)) narrowest (pos 1)
        (λ v i p. none v (pos 1) (belongs v p)) q r h in
        omega (arith, ints, zero_is, one_is)
      where
        none : (v w : ℤ) → IsQuotient x y v → v ≡ w
        none v w (inl p) = absurd (omega (arith, ints, z, p.0))
        none v w (inr p) = absurd (omega (arith, ints, z, p.0))

-- ---- what is left

pub remainder_exact : (b : spans.Span) (y r : ℤ) → IsInRange r → IsSingle (Span b) (Number y)
    → Holds (remainder_of (Span b)) (Number r) → IsRemainder y r
remainder_exact b y r i e h = by (int_le (pos 0) b.lo) refl (int_le b.hi (pos 0)) refl h
  where
    -- not zero, it is above or below
    found : int_min (b.lo +ℤ pos 1) (pos 0) ≤ℤ r → r ≤ℤ int_max (b.hi -ℤ pos 1) (pos 0)
        → (y <ℤ pos 0) ⊎ (pos 0 <ℤ y) → IsRemainder y r
    found p q (inl l) = inr (omega (arith, ints, clamps, e.0, e.1), omega (arith, ints, clamps, e.0, e.1))
    found p q (inr l) = inl (omega (arith, ints, clamps, e.0, e.1), omega (arith, ints, clamps, e.0, e.1))

    by : (s : Bool) → int_le (pos 0) b.lo ≡ s → (t : Bool) → int_le b.hi (pos 0) ≡ t
        → Holds (if s && t then Contradiction
        else known (int_min (b.lo +ℤ pos 1) (pos 0)) (int_max (b.hi -ℤ pos 1) (pos 0))) (Number r) → IsRemainder y r
    by true f true g h = absurd h
    by true f false g h =
        let held = known_from _ _ r i h in found held.0 held.1 (inr (omega (arith, ints, e.1, g)))
    by false f t g h =
        let held = known_from _ _ r i h in found held.0 held.1 (inl (omega (arith, ints, e.0, f)))

pub divisor_exact : (a b : spans.Span) (r y v : ℤ) → IsInRange v → IsSingle (Span a) (Number r)
    → IsSingle (Span b) (Number y) → Holds (divisor_of (Span a) (Span b)) (Number v) → (v ≡ y) × IsRemainder y r
divisor_exact a b r y v i e f h =
    let held = hull_of_points (IsRemainder y r) (IsRemainder y r) (divisors_above (Span a) (Span b))
    (divisors_below (Span a) (Span b)) y above_kind below_kind above below v (narrowed_from _ v i h) in
    (held.0, elim held.1 [ inl p ↦ p | inr p ↦ p ])
  where
    above_kind : IsOf kinds.Span 0 (divisors_above (Span a) (Span b))
    above_kind = by (int_lt a.hi (pos 0))
      where
        by : (t : Bool) → IsOf kinds.Span 0 (if t then Contradiction
            else part_of (Span b) (int_max a.lo (pos 0) +ℤ pos 1) B)
        by true = tt
        by false = part_kind 0 (Span b) _ _

    below_kind : IsOf kinds.Span 0 (divisors_below (Span a) (Span b))
    below_kind = by (int_lt (pos 0) a.lo)
      where
        by : (t : Bool) → IsOf kinds.Span 0 (if t then Contradiction
            else part_of (Span b) (neg_ℤ B) (int_min a.hi (pos 0) -ℤ pos 1))
        by true = tt
        by false = part_kind 0 (Span b) _ _

    above : (w : ℤ) → Holds (divisors_above (Span a) (Span b)) (Number w) → (w ≡ y) × IsRemainder y r
    above w = by (int_lt a.hi (pos 0)) refl
      where
        by : (t : Bool) → int_lt a.hi (pos 0) ≡ t → Holds (if t then Contradiction
            else part_of (Span b) (int_max a.lo (pos 0) +ℤ pos 1) B) (Number w) → (w ≡ y) × IsRemainder y r
        by true g h = absurd h
        by false g h =
            let held = part_exact b y (int_max a.lo (pos 0) +ℤ pos 1) B f w h in (
              held.0,
              inl (omega (arith, ints, clamps, e.1, g), omega (arith, ints, clamps, e.0, e.1, held.1.0)),
            )

    below : (w : ℤ) → Holds (divisors_below (Span a) (Span b)) (Number w) → (w ≡ y) × IsRemainder y r
    below w = by (int_lt (pos 0) a.lo) refl
      where
        by : (t : Bool) → int_lt (pos 0) a.lo ≡ t → Holds (if t then Contradiction
            else part_of (Span b) (neg_ℤ B) (int_min a.hi (pos 0) -ℤ pos 1)) (Number w) → (w ≡ y) × IsRemainder y r
        by true g h = absurd h
        by false g h =
            let held = part_exact b y (neg_ℤ B) (int_min a.hi (pos 0) -ℤ pos 1) f w h in (
              held.0,
              inr (omega (arith, ints, clamps, e.0, e.1, held.1.1), omega (arith, ints, clamps, e.0, g)),
            )
