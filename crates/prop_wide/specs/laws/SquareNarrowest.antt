-- Squares and roots by a scale are answered as narrowly as can be.
use Rattle.std.specs.Prelude.{◌≡◌, ℕ, ◌≤◌, ℤ, pos, neg_ℤ, ◌+ℤ◌, ◌-ℤ◌, ◌*ℤ◌, ◌≤ℤ◌, ◌<ℤ◌, ◌⊎◌, Bool}
use Rattle.std.specs.Prelude.{true, false, int_lt, unsigned_abs, if◌then◌else◌, List, [], ◌∷◌}
use Rattle.std.specs.Int.{int_max, int_min}
use Rattle.std.proofs.Common.{arith, refl, ap, sym, subst, inl, inr, ◌∙◌}
use Rattle.std.proofs.lemmas.Int.{ints, clamps, by_lt_z}
use lib.IntN.{*ℤ_comm}
use Rattle.prop_arith.specs.laws.Combined.{RelatesOne, at_one}
use Rattle.prop_arith.specs.laws.NumberLaws.{at_least_one}
use Rattle.prop_intervals.specs.Quotients.{int_div_ceil}
use Rattle.prop_intervals.specs.inner.Parts.{int_div_floor}
use Rattle.prop_intervals.specs.inner.Roots.{least_root, greatest_root}
use Rattle.prop_intervals.specs.Spans.{least_product, greatest_product, product_of}
use Rattle.prop_intervals.specs.laws.QuotientLaws.{product-add, product-le, floor-parts, le-floor}
use Rattle.prop_intervals.specs.laws.QuotientLaws.{floor-lt, ceil-parts, ceil-le, lt-ceil}
use Rattle.prop_intervals.specs.laws.Relations.{IsInRange}
use Rattle.prop_intervals.specs.laws.RootLaws.{least_root-to, greatest_root-to}
use Rattle.prop_lattice.proofs.EndLemmas.{span_from-ends}
use Rattle.prop_lattice.specs.Points.{Number, Holds}
use Rattle.prop_lattice.specs.declared.span.TheConstants.{B}
use Rattle.prop_lattice.specs.declared.span.Span as spans
use Rattle.prop_lattice.specs.declared.info.Info.{Info}
use Rattle.prop_lattice.specs.declared.info.Info.TheVariants.{Nothing, Span, Contradiction}
use Rattle.prop_procedures.specs.declared.shape.Kinded.{Kinded}
use Rattle.prop_procedures.specs.declared.shape.Need.TheVariants as needs
use Rattle.prop_procedures.specs.declared.shape.Param.{Param}
use Rattle.prop_procedures.specs.declared.shape.Param.TheVariants.{Plain, Scale, Rows}
use Rattle.prop_procedures.specs.declared.shape.Shape.{Shape}
use Rattle.prop_procedures.specs.declared.shape.Shape.TheVariants as shapes
use Rattle.prop_procedures.specs.Rules.{AreClear}
use Rattle.prop_procedures.specs.inner.Places.{Admits}
use Rattle.prop_procedures.specs.inner.Places.{AreOf}
use Rattle.prop_wide.specs.Answers.{IsInside}
use Rattle.prop_wide.specs.Distances.{IsDistance, at_distance, least_distance}
use Rattle.prop_wide.specs.Distances.{greatest_distance}
use Rattle.prop_wide.specs.Ends.{low_of, high_of, part_of}
use Rattle.prop_wide.specs.Narrowest.{IsNarrowest, IsNumber, BelongsToOne, BelongsToTwo}
use Rattle.prop_wide.specs.Narrowest.{TwoIsNarrowest}
use Rattle.prop_wide.specs.Points.{RelatesAtScale}
use Rattle.prop_wide.specs.Squares.{IsSquareBy, times_itself, square_of, least_square}
use Rattle.prop_wide.specs.Squares.{greatest_square, root_of}
use Rattle.prop_wide.specs.laws.DistanceNarrowest.{AreDistances, nearest, furthest, distances_of}
use Rattle.prop_wide.specs.laws.EndLaws.{IsBetween, ends_ordered, part_holds, part_kind}
use Rattle.prop_wide.specs.laws.NarrowestLaws.{between_left, clip_from, reached, none, exact, same}
use Rattle.prop_wide.specs.laws.NarrowestLaws.{hull_narrowest, narrowed_narrowest, part_from}
use Rattle.prop_wide.specs.declared.wide.Wide.TheVariants.{Square}
use Rattle.prop_wide.specs.Values.{at_a_scale}
use Rattle.prop_wide.specs.laws.NarrowestPoints.{IsWithin, of_numbers, one_answer}
use Rattle.prop_wide.specs.laws.SquareLaws.{distance_square, square_sound, root_sound}

-- ---- units of a scale

one_times : (k : ℤ) → (pos 1 *ℤ k) ≡ k
one_times k = omega (arith, ints)

unit_after : (k z : ℤ) → (k *ℤ (z +ℤ pos 1)) ≡ ((z *ℤ k) +ℤ k)
unit_after k z = *ℤ_comm k (z +ℤ pos 1) ∙ product-add z (pos 1) k
    ∙ (λ i. (z *ℤ k) +ℤ one_times k i)

unit_before : (k z : ℤ) → (k *ℤ (z -ℤ pos 1)) ≡ ((z *ℤ k) -ℤ k)
unit_before k z = *ℤ_comm k (z -ℤ pos 1) ∙ product-add z (neg_ℤ (pos 1)) k
    ∙ (λ i. (z *ℤ k) +ℤ minus_times k i)
  where
    minus_times : (k : ℤ) → (neg_ℤ (pos 1) *ℤ k) ≡ neg_ℤ k
    minus_times k = omega (arith, ints)

-- q is less than a unit of 1/k apart from w
abbrev IsNear : ℤ → ℤ → ℤ → Type 0
IsNear k w q = ((k *ℤ (w -ℤ pos 1)) <ℤ q) × (q <ℤ (k *ℤ (w +ℤ pos 1)))

floor_near : (k q : ℤ) → pos 1 ≤ℤ k → IsNear k (int_div_floor q k) q
floor_near k q s =
    let parts = floor-parts q k (omega (arith, ints)) in
    rw (unit_before k (int_div_floor q k), unit_after k (int_div_floor q k))
    (around (int_div_floor q k *ℤ k) parts.0 parts.1)
  where
    around : (t : ℤ) → t ≤ℤ q → q <ℤ (t +ℤ k) → ((t -ℤ k) <ℤ q) × (q <ℤ (t +ℤ k))
    around t h i = (omega (arith, ints), i)

ceil_near : (k q : ℤ) → pos 1 ≤ℤ k → IsNear k (int_div_ceil q k) q
ceil_near k q s =
    let parts = ceil-parts q k (omega (arith, ints)) in
    rw (unit_before k (int_div_ceil q k), unit_after k (int_div_ceil q k))
    (around (int_div_ceil q k *ℤ k) parts.0 parts.1)
  where
    around : (t : ℤ) → q ≤ℤ t → t <ℤ (q +ℤ k) → ((t -ℤ k) <ℤ q) × (q <ℤ (t +ℤ k))
    around t h i = (omega (arith, ints), omega (arith, ints))

-- what lies between the units before l and after h is near one from l to h
near_one : (k l h q : ℤ) → pos 1 ≤ℤ k → l ≤ℤ h → (((l -ℤ pos 1) *ℤ k) +ℤ pos 1) ≤ℤ q
    → q ≤ℤ (((h +ℤ pos 1) *ℤ k) -ℤ pos 1)
    → (w : ℤ) × (l ≤ℤ w) × (w ≤ℤ h) × IsNear k w q
near_one k l h q s o a b = by_lt_z (int_div_floor q k) l
    (λ e. (l, omega (arith, ints), o, low e))
    (λ e. (
      int_div_floor q k,
      e,
      before (int_div_floor q k) (floor-lt q k (h +ℤ pos 1) (omega (arith, ints))
          (under ((h +ℤ pos 1) *ℤ k) b)),
      floor_near k q s,
    ))
  where
    before : (f : ℤ) → f <ℤ (h +ℤ pos 1) → f ≤ℤ h
    before f p = omega (arith, ints)

    under : (t : ℤ) → q ≤ℤ (t -ℤ pos 1) → q <ℤ t
    under t p = omega (arith, ints)

    over : (t : ℤ) → (t +ℤ pos 1) ≤ℤ q → t <ℤ q
    over t p = omega (arith, ints)

    later : (t u w : ℤ) → q <ℤ t → t ≡ u → u ≤ℤ w → q <ℤ w
    later t u w p e r = omega (arith, ints)

    low : int_div_floor q k <ℤ l → IsNear k l q
    low e = (
      rw (*ℤ_comm k (l -ℤ pos 1)) (over ((l -ℤ pos 1) *ℤ k) a),
      rw (*ℤ_comm k (l +ℤ pos 1)) (later (k *ℤ (int_div_floor q k +ℤ pos 1))
          ((int_div_floor q k +ℤ pos 1) *ℤ k) ((l +ℤ pos 1) *ℤ k) (floor_near k q s).1
          (*ℤ_comm k (int_div_floor q k +ℤ pos 1))
          (product-le (int_div_floor q k +ℤ pos 1) (l +ℤ pos 1) k (omega (arith, ints))
          (omega (arith, ints)))),
    )

-- ---- roots

-- a number of x that is as far from zero
abbrev IsAt : Info → ℤ → ℤ → ℤ → Type 0
IsAt x near far v = IsBetween x v × (near ≤ℤ pos (unsigned_abs v)) × (pos (unsigned_abs v) ≤ℤ far)

at_distance_narrowest : (x : Info) (near far : ℤ) → pos 0 ≤ℤ near
    → IsNarrowest (IsAt x near far) (at_distance x near far)
at_distance_narrowest x near far z =
    narrowed_narrowest P _ (same (λ v. Below v ⊎ Above v) P _ to from
    (hull_narrowest Below Above (part_of x (neg_ℤ far) (neg_ℤ near)) (part_of x near far)
    (part_kind 0 x (neg_ℤ far) (neg_ℤ near)) (part_kind 0 x near far)
    (exact Below _ (λ v i b. below_holds v b) (λ v i h. below_from v h))
    (exact Above _ (λ v i b. above_holds v b) (λ v i h. above_from v h))))
  where
    P : ℤ → Type 0
    P = IsAt x near far

    Below : ℤ → Type 0
    Below v = P v × (v ≤ℤ pos 0)

    Above : ℤ → Type 0
    Above v = P v × (pos 0 ≤ℤ v)

    to : (v : ℤ) → IsInRange v → Below v ⊎ Above v → P v
    to v i (inl b) = b.0
    to v i (inr b) = b.0

    from : (v : ℤ) → IsInRange v → P v → Below v ⊎ Above v
    from v i p = by_lt_z v (pos 0) (λ l. inl (p, omega (arith, ints))) (λ l. inr (p, l))

    below_holds : (v : ℤ) → Below v → Holds (part_of x (neg_ℤ far) (neg_ℤ near)) (Number v)
    below_holds v b = part_holds x _ _ v b.0.0 (omega (arith, ints, b.1, b.0.2))
        (omega (arith, ints, b.1, b.0.1))

    above_holds : (v : ℤ) → Above v → Holds (part_of x near far) (Number v)
    above_holds v b = part_holds x _ _ v b.0.0 (omega (arith, ints, b.1, b.0.1))
        (omega (arith, ints, b.1, b.0.2))

    below_from : (v : ℤ) → Holds (part_of x (neg_ℤ far) (neg_ℤ near)) (Number v) → Below v
    below_from v h =
        let f = part_from x (neg_ℤ far) (neg_ℤ near) v h in (
          (
            record { from = f.0.0; to = f.0.1 },
            omega (arith, ints, f.1.1),
            omega (arith, ints, f.1.0, f.1.1),
          ),
          omega (arith, ints, f.1.1),
        )

    above_from : (v : ℤ) → Holds (part_of x near far) (Number v) → Above v
    above_from v h =
        let f = part_from x near far v h in (
          (
            record { from = f.0.0; to = f.0.1 },
            omega (arith, ints, f.1.0),
            omega (arith, ints, f.1.0, f.1.1),
          ),
          omega (arith, ints, f.1.0),
        )

pub root_narrowest : (k : ℤ) → pos 1 ≤ℤ k
    → TwoIsNarrowest (root_of k) (λ y x v. (v ≡ x) × IsSquareBy k x y)
root_narrowest k s y x n m = by (int_lt (greatest_square k y) (pos 0)) refl
    (λ v i b. root_sound k s y x b.0 b.1 v b.2.held b.3.held b.2.in_range b.3.in_range i b.4)
  where
    P : ℤ → Type 0
    P = BelongsToTwo (λ y x v. (v ≡ x) × IsSquareBy k x y) y x

    near : ℤ
    near = pos (least_root (least_square k y))

    far : ℤ
    far = pos (greatest_root (greatest_square k y))

    as_count : (a b : ℕ) → pos a ≤ℤ pos b → a ≤ b
    as_count a b p = omega (arith, ints)

    belongs : pos 0 ≤ℤ greatest_square k y → (v : ℤ) → IsAt x near far v → P v
    belongs z v b =
        let w = near_one k (low_of y) (high_of y) (v *ℤ v) s (ends_ordered y).ordered
        (least_root-to (least_square k y) v (as_count _ _ b.1))
        (greatest_root-to (greatest_square k y) v z (as_count _ _ b.2)) in (
          w.0,
          v,
          between_left y w.0 n w.1 w.2,
          between_left x v m b.0.from b.0.to,
          (refl, w.3),
        )

    not_below : (g : ℤ) → int_lt g (pos 0) ≡ false → pos 0 ≤ℤ g
    not_below g e = omega (arith, ints)

    by : (t : Bool) → int_lt (greatest_square k y) (pos 0) ≡ t
        → ((v : ℤ) → IsInRange v → P v
        → Holds (if t then Contradiction else at_distance x near far) (Number v))
        → IsNarrowest P (if t then Contradiction else at_distance x near far)
    by true e holds = none P holds
    by false e holds = record {
      holds = holds;
      within = λ t h v i g. (at_distance_narrowest x near far (omega (arith, ints))).within t
          (λ u j b. h u j (belongs (not_below (greatest_square k y) e) u b)) v i g;
    }

-- ---- squares

-- the least and the greatest product of two from l to h
corners : (p q r t : ℤ) → p ≤ℤ r → q ≡ r → q ≤ℤ t
    → (int_min (int_min p q) (int_min r t) ≡ p) × (int_max (int_max p q) (int_max r t) ≡ t)
corners p q r t a b c = (omega (arith, ints, clamps), omega (arith, ints, clamps))

square_ends : (s : spans.Span) → pos 0 ≤ℤ s.lo
    → (least_product s s ≡ (s.lo *ℤ s.lo)) × (greatest_product s s ≡ (s.hi *ℤ s.hi))
square_ends s z = corners (s.lo *ℤ s.lo) (s.lo *ℤ s.hi) (s.hi *ℤ s.lo) (s.hi *ℤ s.hi)
    (product-le s.lo s.hi s.lo s.ordered z) (*ℤ_comm s.lo s.hi)
    (product-le s.lo s.hi s.hi s.ordered (above s.lo s.hi z s.ordered))
  where
    above : (l h : ℤ) → pos 0 ≤ℤ l → l ≤ℤ h → pos 0 ≤ℤ h
    above l h p q = omega (arith, ints)

square_in : (l h k : ℤ) → pos 1 ≤ℤ k → pos 0 ≤ℤ l → l ≤ℤ h → (h *ℤ h) ≤ℤ (B *ℤ k)
    → IsInRange (int_div_floor (l *ℤ l) k) × IsInRange (int_div_ceil (h *ℤ h) k)
square_in l h k s z o u = (
  (
    low (int_div_floor (l *ℤ l) k) (le-floor (l *ℤ l) k (pos 0) (omega (arith, ints))
        (rw (zero_times k) squares.0)),
    before (int_div_floor (l *ℤ l) k) (floor-lt (l *ℤ l) k (B +ℤ pos 1) (omega (arith, ints))
        (rw (*ℤ_comm (B +ℤ pos 1) k, unit_after k B)
        (under (l *ℤ l) (h *ℤ h) (B *ℤ k) squares.1 u))),
  ),
  (
    after (int_div_ceil (h *ℤ h) k) (lt-ceil (h *ℤ h) k (neg_ℤ (pos 1)) (omega (arith, ints))
        (less (neg_ℤ (pos 1) *ℤ k) (l *ℤ l) (h *ℤ h) (minus_times k) squares.0 squares.1)),
    ceil-le (h *ℤ h) k B (omega (arith, ints)) u,
  ),
)
  where
    zero_times : (k : ℤ) → (pos 0 *ℤ k) ≡ pos 0
    zero_times k = omega (arith, ints)

    minus_times : (k : ℤ) → (neg_ℤ (pos 1) *ℤ k) ≡ neg_ℤ k
    minus_times k = omega (arith, ints)

    through : (a b c : ℤ) → a ≤ℤ b → b ≤ℤ c → a ≤ℤ c
    through a b c p q = omega (arith, ints)

    squares : (pos 0 ≤ℤ (l *ℤ l)) × ((l *ℤ l) ≤ℤ (h *ℤ h))
    squares = (
      through (pos 0) (pos 0 *ℤ l) (l *ℤ l) (omega (arith, ints, zero_times l))
          (product-le (pos 0) l l z z),
      through (l *ℤ l) (h *ℤ l) (h *ℤ h) (product-le l h l o z)
          (rw (*ℤ_comm h l) (product-le l h h o (through (pos 0) l h z o))),
    )

    low : (f : ℤ) → pos 0 ≤ℤ f → neg_ℤ B ≤ℤ f
    low f p = omega (arith, ints)

    before : (f : ℤ) → f <ℤ (B +ℤ pos 1) → f ≤ℤ B
    before f p = omega (arith, ints)

    after : (f : ℤ) → neg_ℤ (pos 1) <ℤ f → neg_ℤ B ≤ℤ f
    after f p = omega (arith, ints)

    under : (a b c : ℤ) → a ≤ℤ b → b ≤ℤ c → a <ℤ (c +ℤ k)
    under a b c p q = omega (arith, ints)

    less : (t a b : ℤ) → t ≡ neg_ℤ k → pos 0 ≤ℤ a → a ≤ℤ b → t <ℤ b
    less t a b e p q = omega (arith, ints)

pub square_narrowest : (k : ℤ) → pos 1 ≤ℤ k → (x : Info) → IsNumber x
    → (greatest_distance x *ℤ greatest_distance x) ≤ℤ (B *ℤ k)
    → IsNarrowest (BelongsToOne (IsSquareBy k) x) (square_of k x)
square_narrowest k s x n u =
    subst (IsNarrowest P) (sym is) (reached P least greatest (product_of d d k)
    (λ v i b. subst (λ r. Holds r (Number v)) is
    (square_sound k s x b.0 v b.1.held b.1.in_range i b.2)) from range.0 least_is range.1
    greatest_is)
  where
    P : ℤ → Type 0
    P = BelongsToOne (IsSquareBy k) x

    l : ℤ
    l = least_distance x

    h : ℤ
    h = greatest_distance x

    o : AreDistances l h
    o = distances_of x

    low : (l : ℤ) → pos 0 ≤ℤ l → neg_ℤ B ≤ℤ l
    low l p = omega (arith, ints)

    d : spans.Span
    d = record { lo = l; hi = h; above = low l o.least; ordered = o.ordered; below = o.greatest }

    is : square_of k x ≡ product_of d d k
    is = ap (times_itself k) (span_from-ends l h d refl refl)

    least : ℤ
    least = int_div_floor (l *ℤ l) k

    greatest : ℤ
    greatest = int_div_ceil (h *ℤ h) k

    range : IsInRange least × IsInRange greatest
    range = square_in l h k s o.least o.ordered u

    from : (v : ℤ) → IsInRange v → Holds (product_of d d k) (Number v)
        → (least ≤ℤ v) × (v ≤ℤ greatest)
    from v i e =
        let b = clip_from (int_div_floor (least_product d d) k)
        (int_div_ceil (greatest_product d d) k) v e in
        let ends = square_ends d o.least in (
          left (int_div_floor (least_product d d) k) least v
              (ap (λ m. int_div_floor m k) ends.0) b.0,
          right (int_div_ceil (greatest_product d d) k) greatest v
              (ap (λ m. int_div_ceil m k) ends.1) b.1,
        )
      where
        left : (p q v : ℤ) → p ≡ q → p ≤ℤ v → q ≤ℤ v
        left p q v e r = omega (arith, ints)

        right : (p q v : ℤ) → p ≡ q → v ≤ℤ p → v ≤ℤ q
        right p q v e r = omega (arith, ints)

    -- the square of a number that is as far from zero
    squared : (w a : ℤ) (b : BelongsToOne IsDistance x a) → IsNear k w (a *ℤ a) → P w
    squared w a b e = (
      b.0,
      b.1,
      subst (IsNear k w) ((λ i. b.2 i *ℤ b.2 i) ∙ distance_square b.0) e,
    )

    least_is : P least
    least_is = squared least l (nearest x n) (floor_near k (l *ℤ l) s)

    greatest_is : P greatest
    greatest_is = squared greatest h (furthest x n) (ceil_near k (h *ℤ h) s)

pub square_within : (any : Shape → Kinded) (param : Param) (args : List Info)
    → Admits needs.Scale param → AreOf any (shapes.Span ∷ []) args → AreClear args
    → IsInside Square param args →
    IsWithin any (shapes.Span ∷ []) of_numbers
    (RelatesAtScale (λ k. RelatesOne (IsSquareBy k)) param) args
    (at_a_scale (λ k. at_one (square_of k)) param args)
square_within any (Scale k) (x ∷ []) a l c u =
    subst (λ t. IsWithin any (shapes.Span ∷ []) of_numbers (RelatesOne (IsSquareBy k)) (x ∷ [])
    (if t then square_of k x else Nothing)) (sym a)
    (one_answer (IsSquareBy k) any x (square_of k x)
    (square_narrowest k (at_least_one k a) x (record { of_kind = l.0; clear = c.0 }) u))
square_within any (Scale k) [] a l c u = absurd l
square_within any (Scale k) (x ∷ y ∷ args) a l c u = absurd l.1
square_within any Plain args a l c u = absurd a
square_within any (Rows m) args a l c u = absurd a
