-- Quotients that are rounded down, and what they leave.
use Rattle.std.proofs.Common.{◌≡◌, ◌∙◌, ℕ, zero, suc, ℤ, pos, negsuc, neg_ℤ, ◌+ℤ◌, ◌-ℤ◌, ◌*ℤ◌, ◌≤ℤ◌, ◌<ℤ◌}
use Rattle.std.proofs.Common.{List, [], ◌∷◌, Bool, true, false, cond, ◌&&◌, ◌||◌, Option, Some, None, inl, inr}
use Rattle.std.proofs.Common.{refl, ap, sym, subst, arith, int_le, int_lt}
use Rattle.std.specs.Option.{option_map}
use Rattle.std.specs.List.{AllByRecursion}
use Rattle.std.proofs.lemmas.Int.{ints, by_lt_z}
use lib.IntN.{*ℤ_comm}
use Rattle.prop_intervals.specs.laws.QuotientLaws.{product-add, product-le, product-ge}
use Rattle.prop_lattice.specs.Points.{Point, Number, IsPointOf}
use Rattle.prop_lattice.specs.declared.info.Kind.TheVariants.{Span as SpanKind}
use Rattle.prop_lattice.specs.declared.span.TheConstants.{B}
use Rattle.prop_procedures.specs.declared.shape.Param.{Param}
use Rattle.prop_terms.specs.Meaning.{quotient}
use Rattle.prop_terms.proofs.Rounding.{rounded_down}
use Rattle.prop_wide.specs.Quotients.{IsQuotient, IsRemainder}
use Rattle.prop_meaning.specs.Acts.{RelatedBy, TellsBy, HoldsAt}
use Rattle.prop_meaning.specs.declared.acts.Act.{Act}
use Rattle.prop_meaning.specs.declared.acts.Rule.{Rule}
use Rattle.prop_meaning.specs.declared.acts.Rule.TheVariants.{OfKit, OfWide}
use Rattle.prop_arith.specs.declared.kit.Kit.TheVariants as kits
use Rattle.prop_wide.specs.declared.wide.Wide.TheVariants as wides
use Rattle.prop_procedures.specs.declared.shape.Param.TheVariants.{Plain}
use Rattle.prop_meaning.specs.declared.steps.Pair.TheVariants.{Product}
use Rattle.prop_meaning.specs.inner.Expanding.{quotient_acts, left_acts}
use Rattle.prop_meaning.specs.inner.Steps.{number_or, quotient_point, remainder_point, may_leave, left_point, IsLeft}
use Rattle.prop_meaning.specs.inner.Steps.{of_two}
use Rattle.prop_meaning.specs.inner.Drafts.{number_kind}
use Rattle.prop_meaning.proofs.Formulas.{on_numbers}
use Rattle.prop_meaning.proofs.Ways.{on_three_numbers}

-- ---- one quotient

one_times : (v : ℤ) → (pos 1 *ℤ v) ≡ v
one_times v = omega (arith, ints)

more : (q v : ℤ) → ((q +ℤ pos 1) *ℤ v) ≡ (q *ℤ v) +ℤ v
more q v = product-add q (pos 1) v ∙ ap (λ w. (q *ℤ v) +ℤ w) (one_times v)

-- a quotient is at most another number that may be one
at_most : (u v q w : ℤ) → IsQuotient u v q → IsQuotient u v w → q ≤ℤ w
at_most u v q w (inl e) (inl f) = by_lt_z w q
    (λ l. absurd (clash (q *ℤ v) ((w +ℤ pos 1) *ℤ v) (w *ℤ v) (more w v)
    (product-le (w +ℤ pos 1) q v (omega (arith, ints)) (omega (arith, ints, e.0))) e.1 f.2)) (λ h. h)
  where
    clash : (m n k : ℤ) → n ≡ k +ℤ v → n ≤ℤ m → m ≤ℤ u → u <ℤ (k +ℤ v) → ⊥
    clash m n k e h i l = omega (arith, ints)
at_most u v q w (inr e) (inr f) = by_lt_z w q
    (λ l. absurd (clash (q *ℤ v) ((w +ℤ pos 1) *ℤ v) (w *ℤ v) (more w v)
    (product-ge (w +ℤ pos 1) q v (omega (arith, ints)) (omega (arith, ints, e.0))) e.1 f.2)) (λ h. h)
  where
    clash : (m n k : ℤ) → n ≡ k +ℤ v → m ≤ℤ n → u ≤ℤ m → (k +ℤ v) <ℤ u → ⊥
    clash m n k e h i l = omega (arith, ints)
at_most u v q w (inl e) (inr f) = absurd (clash e.0 f.0)
  where
    clash : pos 0 <ℤ v → v <ℤ pos 0 → ⊥
    clash l h = omega (arith, ints)
at_most u v q w (inr e) (inl f) = absurd (clash f.0 e.0)
  where
    clash : pos 0 <ℤ v → v <ℤ pos 0 → ⊥
    clash l h = omega (arith, ints)

one_quotient : (u v q w : ℤ) → IsQuotient u v q → IsQuotient u v w → q ≡ w
one_quotient u v q w e f = same (at_most u v q w e f) (at_most u v w q f e)
  where
    same : q ≤ℤ w → w ≤ℤ q → q ≡ w
    same h g = omega (arith, ints)

pub only_zero : (u v : ℤ) → quotient u v ≡ None → v ≡ pos 0
only_zero u (pos zero) e = refl
only_zero u (pos (suc n)) e = absurd (cc)
only_zero u (negsuc n) e = absurd (cc)

no_zero : (u v q : ℤ) → v ≡ pos 0 → IsQuotient u v q → ⊥
no_zero u v q e (inl h) = clash h.0
  where
    clash : pos 0 <ℤ v → ⊥
    clash l = omega (arith, ints, e)
no_zero u v q e (inr h) = clash h.0
  where
    clash : v <ℤ pos 0 → ⊥
    clash l = omega (arith, ints, e)

-- a quotient is no further from zero than what is divided
pub quotient_near : (u v q : ℤ) → (neg_ℤ B ≤ℤ u) × (u ≤ℤ B) → IsQuotient u v q → (neg_ℤ B ≤ℤ q) × (q ≤ℤ B)
quotient_near u v q r (inl e) = (
  by_lt_z q (neg_ℤ B) (λ l. absurd (low ((q +ℤ pos 1) *ℤ v) (v *ℤ (q +ℤ pos 1)) (q *ℤ v) (pos 1 *ℤ (q +ℤ pos 1))
      (*ℤ_comm (q +ℤ pos 1) v) (more q v) (one_times (q +ℤ pos 1))
      (product-ge (pos 1) v (q +ℤ pos 1) (omega (arith, ints, e.0)) (omega (arith, ints))) e.2 l)) (λ h. h),
  by_lt_z B q (λ l. absurd (high (q *ℤ v) (v *ℤ q) (pos 1 *ℤ q) (*ℤ_comm q v) (one_times q)
      (product-le (pos 1) v q (omega (arith, ints, e.0)) (omega (arith, ints))) e.1 l)) (λ h. h),
)
  where
    low : (m n k o : ℤ) → m ≡ n → m ≡ k +ℤ v → o ≡ q +ℤ pos 1 → n ≤ℤ o → u <ℤ (k +ℤ v) → q <ℤ neg_ℤ B → ⊥
    low m n k o a b c h i l = omega (arith, ints, r.0)

    high : (m n o : ℤ) → m ≡ n → o ≡ q → o ≤ℤ n → m ≤ℤ u → B <ℤ q → ⊥
    high m n o a b h i l = omega (arith, ints, r.1)
quotient_near u v q r (inr e) = (
  by_lt_z q (neg_ℤ B) (λ l. absurd (low ((q +ℤ pos 1) *ℤ v) (v *ℤ (q +ℤ pos 1)) (q *ℤ v)
      (negsuc 0 *ℤ (q +ℤ pos 1))
      (*ℤ_comm (q +ℤ pos 1) v) (more q v) (turned (q +ℤ pos 1))
      (product-ge v (negsuc 0) (q +ℤ pos 1) (omega (arith, ints, e.0)) (omega (arith, ints))) e.2 l)) (λ h. h),
  by_lt_z B q (λ l. absurd (high (q *ℤ v) (v *ℤ q) (negsuc 0 *ℤ q) (*ℤ_comm q v) (turned q)
      (product-le v (negsuc 0) q (omega (arith, ints, e.0)) (omega (arith, ints))) e.1 l)) (λ h. h),
)
  where
    turned : (a : ℤ) → negsuc 0 *ℤ a ≡ neg_ℤ a
    turned a = omega (arith, ints)

    low : (m n k o : ℤ) → m ≡ n → m ≡ k +ℤ v → o ≡ neg_ℤ (q +ℤ pos 1) → o ≤ℤ n → (k +ℤ v) <ℤ u → q <ℤ neg_ℤ B → ⊥
    low m n k o a b c h i l = omega (arith, ints, r.1)

    high : (m n o : ℤ) → m ≡ n → o ≡ neg_ℤ q → n ≤ℤ o → u ≤ℤ m → B <ℤ q → ⊥
    high m n o a b h i l = omega (arith, ints, r.0)

-- ---- what is left

pub may_be_left : (v r : ℤ) → may_leave v r ≡ true → IsRemainder v r
may_be_left v r e = by (int_le (pos 0) r && int_lt r v) refl e
  where
    zero_le : (int_le (pos 0) r && int_lt r v) ≡ true → pos 0 ≤ℤ r
    zero_le e = grind (arith, ints)

    less : (int_le (pos 0) r && int_lt r v) ≡ true → r <ℤ v
    less e = grind (arith, ints)

    above : (int_lt v r && int_le r (pos 0)) ≡ true → v <ℤ r
    above e = grind (arith, ints)

    le_zero : (int_lt v r && int_le r (pos 0)) ≡ true → r ≤ℤ pos 0
    le_zero e = grind (arith, ints)

    by : (b : Bool) → (int_le (pos 0) r && int_lt r v) ≡ b → (b || (int_lt v r && int_le r (pos 0))) ≡ true
        → IsRemainder v r
    by true f e = inl (zero_le f, less f)
    by false f e = inr (above e, le_zero e)

pub is_left : (v r : ℤ) → IsRemainder v r → may_leave v r ≡ true
is_left v r (inl h) = first h.0 h.1
  where
    first : pos 0 ≤ℤ r → r <ℤ v → may_leave v r ≡ true
    first l h = grind (arith, ints)
is_left v r (inr h) = second h.0 h.1
  where
    second : v <ℤ r → r ≤ℤ pos 0 → may_leave v r ≡ true
    second l h = grind (arith, ints)

-- what a quotient leaves
pub leaves : (u v q : ℤ) → IsQuotient u v q → IsRemainder v (u -ℤ (q *ℤ v))
leaves u v q (inl e) = inl (by (q *ℤ v) e.1 e.2)
  where
    by : (m : ℤ) → m ≤ℤ u → u <ℤ (m +ℤ v) → (pos 0 ≤ℤ (u -ℤ m)) × ((u -ℤ m) <ℤ v)
    by m h l = (omega (arith, ints), omega (arith, ints))
leaves u v q (inr e) = inr (by (q *ℤ v) e.1 e.2)
  where
    by : (m : ℤ) → u ≤ℤ m → (m +ℤ v) <ℤ u → (v <ℤ (u -ℤ m)) × ((u -ℤ m) ≤ℤ pos 0)
    by m h l = (omega (arith, ints), omega (arith, ints))

-- ---- points

pub is_number : (o : Option ℤ) (w : ℤ) → Number w ≡ number_or o → o ≡ Some w
is_number None w e = absurd (cc)
is_number (Some q) w e = cc

pub quotient_is : (u v w : ℤ) → Number w ≡ number_or (quotient u v) → IsQuotient u v w
quotient_is u v w e = rounded_down u v w (is_number (quotient u v) w e)

is_quotient : (u v w : ℤ) → IsQuotient u v w → Number w ≡ number_or (quotient u v)
is_quotient u v w h = by (quotient u v) refl
  where
    by : (o : Option ℤ) → quotient u v ≡ o → Number w ≡ number_or o
    by None e = absurd (no_zero u v w (only_zero u v e) h)
    by (Some q) e = ap Number (one_quotient u v w q h (rounded_down u v q e))

left_is : (u p v w : ℤ) → Number w ≡ left_point (Number u) (Number p) (Number v) → (w ≡ u -ℤ p) × IsRemainder v w
left_is u p v w e = by (may_leave v (u -ℤ p)) refl e
  where
    by : (b : Bool) → may_leave v (u -ℤ p) ≡ b → Number w ≡ number_or (cond b (Some (u -ℤ p)) None)
        → (w ≡ u -ℤ p) × IsRemainder v w
    by true f e =
        let same : w ≡ u -ℤ p = same_in e in
        let P : ℤ → Type 0 = λ r. IsRemainder v r in
        (same, subst P (sym same) (may_be_left v (u -ℤ p) f))
      where
        same_in : Number w ≡ Number (u -ℤ p) → w ≡ u -ℤ p
        same_in e = cc
    by false f e = absurd (cc)

is_left_point : (u p v w : ℤ) → w ≡ u -ℤ p → IsRemainder v w
    → Number w ≡ left_point (Number u) (Number p) (Number v)
is_left_point u p v w e h =
    let P : ℤ → Type 0 = λ r. IsRemainder v r in
    let Q : Bool → Type 0 = λ b. Number w ≡ number_or (cond b (Some (u -ℤ p)) None) in
    subst Q (sym (is_left v (u -ℤ p) (subst P e h))) (ap Number e)

-- ---- the rules

abbrev All : (Rule → Param → List Point → Point → Type 0) → (ℕ → Point) → List Act → Type 0
All related a acts = AllByRecursion (HoldsAt related a) acts

abbrev Divides : (Rule → Param → List Point → Point → Type 0) → Point → Point → Point → Type 0
Divides related p q s = related (OfWide wides.Quotient) Plain (p ∷ q ∷ []) s × Unit {0}

pub quotient_forth : (a : ℕ → Point) (x y z : ℕ) → IsPointOf SpanKind 0 (a x) → IsPointOf SpanKind 0 (a y)
    → IsPointOf SpanKind 0 (a z) → a z ≡ quotient_point (a x) (a y) → All RelatedBy a (quotient_acts x y z)
quotient_forth a x y z h i j e = on_three_numbers
    (λ p q s. s ≡ quotient_point p q → Divides RelatedBy p q s)
    (λ u v w e. (quotient_is u v w e, tt)) number_kind refl (a x) (a y) (a z) h i j e

pub quotient_back : (a : ℕ → Point) (x y z : ℕ) → IsPointOf SpanKind 0 (a x) → IsPointOf SpanKind 0 (a y)
    → IsPointOf SpanKind 0 (a z) → All TellsBy a (quotient_acts x y z) → a z ≡ quotient_point (a x) (a y)
quotient_back a x y z h i j t = on_three_numbers
    (λ p q s. Divides TellsBy p q s → s ≡ quotient_point p q)
    (λ u v w t. is_quotient u v w t.0) number_kind refl (a x) (a y) (a z) h i j t

-- x, p and what is left, and what divides
abbrev Leaves : (Rule → Param → List Point → Point → Type 0) → Point → Point → Point → Point → Type 0
Leaves related p m q s = related (OfKit kits.Add) Plain (m ∷ s ∷ []) p
    × (related (OfKit kits.Sub) Plain (p ∷ s ∷ []) m × (related (OfKit kits.Sub) Plain (p ∷ m ∷ []) s
    × (related (OfWide wides.Remainder) Plain (q ∷ []) s
    × (related (OfWide wides.Divisor) Plain (s ∷ q ∷ []) q × Unit {0}))))

on_four_numbers : (P : Point → Point → Point → Point → Type 0)
    → ((u v w z : ℤ) → P (Number u) (Number v) (Number w) (Number z)) → (p q s t : Point)
    → IsPointOf SpanKind 0 p → IsPointOf SpanKind 0 q → IsPointOf SpanKind 0 s → IsPointOf SpanKind 0 t → P p q s t
on_four_numbers P f p q s t h i j k = on_numbers 0 (λ p q. P p q s t)
    (λ u v. on_numbers 0 (λ s t. P (Number u) (Number v) s t) (λ w z. f u v w z) s t j k) p q h i

minus_second : (u m w : ℤ) → w ≡ u -ℤ m → u ≡ w +ℤ m
minus_second u m w e = omega (arith, ints)

minus_first : (u m w : ℤ) → w ≡ u -ℤ m → u ≡ m +ℤ w
minus_first u m w e = omega (arith, ints)

minus_back : (u m w : ℤ) → u ≡ m +ℤ w → w ≡ u -ℤ m
minus_back u m w e = omega (arith, ints)

pub left_forth : (a : ℕ → Point) (x p y z : ℕ) → IsPointOf SpanKind 0 (a x) → IsPointOf SpanKind 0 (a p)
    → IsPointOf SpanKind 0 (a y) → IsPointOf SpanKind 0 (a z) → a z ≡ left_point (a x) (a p) (a y)
    → All RelatedBy a (left_acts x p y z)
left_forth a x p y z h i j k e = on_four_numbers
    (λ p m q s. s ≡ left_point p m q → Leaves RelatedBy p m q s)
    (λ u m v w e. by u m v w (left_is u m v w e)) (a x) (a p) (a y) (a z) h i j k e
  where
    by : (u m v w : ℤ) → (w ≡ u -ℤ m) × IsRemainder v w → Leaves RelatedBy (Number u) (Number m) (Number v) (Number w)
    by u m v w l =
        (minus_first u m w l.0, (minus_second u m w l.0, (minus_first u m w l.0, (l.1, ((refl, l.1), tt)))))

pub left_back : (a : ℕ → Point) (x p y z : ℕ) → IsPointOf SpanKind 0 (a x) → IsPointOf SpanKind 0 (a p)
    → IsPointOf SpanKind 0 (a y) → IsPointOf SpanKind 0 (a z) → All TellsBy a (left_acts x p y z)
    → a z ≡ left_point (a x) (a p) (a y)
left_back a x p y z h i j k t = on_four_numbers
    (λ p m q s. Leaves TellsBy p m q s → s ≡ left_point p m q)
    (λ u m v w t. is_left_point u m v w (minus_back u m w t.0) t.1.1.1.0) (a x) (a p) (a y) (a z) h i j k t

-- ---- a division

-- what is left where a quotient times the divisor is taken away is the remainder
pub divides : (p q s t : Point) → IsPointOf SpanKind 0 p → IsPointOf SpanKind 0 q → IsPointOf SpanKind 0 s
    → s ≡ quotient_point p q → t ≡ of_two Product s q
    → IsLeft p t q × (left_point p t q ≡ remainder_point p q)
divides p q s t h i j e f = on_three_numbers (λ p q s. s ≡ quotient_point p q → t ≡ of_two Product s q
    → IsLeft p t q × (left_point p t q ≡ remainder_point p q))
    (λ u v w e f. by u v w e f) number_kind refl p q s h i j e f
  where
    by : (u v w : ℤ) → Number w ≡ number_or (quotient u v) → t ≡ Number (w *ℤ v)
        → IsLeft (Number u) t (Number v) × (left_point (Number u) t (Number v) ≡ remainder_point (Number u) (Number v))
    by u v w e f =
        let P : Point → Type 0 = λ t. IsLeft (Number u) t (Number v)
        × (left_point (Number u) t (Number v) ≡ remainder_point (Number u) (Number v)) in
        let test : may_leave v (u -ℤ (w *ℤ v)) ≡ true =
        is_left v (u -ℤ (w *ℤ v)) (leaves u v w (quotient_is u v w e)) in
        subst P (sym f) (
          test,
          ap (λ b. number_or (cond b (Some (u -ℤ (w *ℤ v))) None)) test
              ∙ ap (λ o. number_or (option_map (λ q. u -ℤ (q *ℤ v)) o)) (sym (is_number (quotient u v) w e)),
        )
