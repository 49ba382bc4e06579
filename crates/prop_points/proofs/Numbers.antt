-- What the functions of numbers answer to single ones.
use Rattle.std.specs.Prelude.{◌≡◌, ◌⊎◌, ℕ, zero, suc, ◌<◌, ℤ, pos, neg_ℤ, ◌+ℤ◌, ◌-ℤ◌, ◌*ℤ◌, ◌≤ℤ◌, ◌<ℤ◌, Bool, true}
use Rattle.std.specs.Prelude.{false, ◌==◌, if◌then◌else◌, int_lt, int_le, Some}
use Rattle.std.specs.Int.{int_max, int_min}
use Rattle.std.proofs.Common.{arith, refl, ap, sym, subst, ◌∙◌, inl, inr, eqb-true, eq-eqb}
use Rattle.std.proofs.lemmas.Int.{ints, clamps, by_lt_z}
use Rattle.prop_intervals.specs.Clip.{clip}
use Rattle.prop_intervals.specs.Comparisons.{yes_bits, no_bits}
use Rattle.prop_intervals.specs.inner.Parts.{less_of, below_of, above_of}
use Rattle.prop_intervals.specs.Quotients.{int_div_ceil}
use Rattle.prop_intervals.specs.inner.Parts.{int_div_floor}
use Rattle.prop_intervals.specs.Relations.{IsSum, IsProduct, IsSquare, SaysLess}
use Rattle.prop_intervals.specs.Roots.{IsRoot, root_of}
use Rattle.prop_intervals.specs.Spans.{sum_of, difference_of, product_of, least_product}
use Rattle.prop_intervals.specs.Spans.{greatest_product}
use Rattle.prop_intervals.specs.inner.Parts.{square_of}
use Rattle.prop_intervals.specs.Spans.{holds_zero}
use Rattle.prop_intervals.specs.laws.QuotientLaws.{product-add, product-le, floor-parts, ceil-parts}
use Rattle.prop_intervals.specs.laws.RootLaws.{root_of-narrowest}
use Rattle.prop_intervals.specs.laws.SquareLaws.{zero_in}
use Rattle.prop_intervals.specs.Narrowest.{IsNarrowest}
use Rattle.prop_lattice.specs.declared.span.TheConstants.{B}
use Rattle.prop_lattice.specs.Ends.{AreEnds, ends_or_not, span_from, elements_from}
use Rattle.prop_lattice.specs.inner.Ends.{span_if}
use Rattle.prop_lattice.specs.Points.{Number, Element, Holds}
use Rattle.prop_lattice.specs.declared.elements.Elements as sets
use Rattle.prop_lattice.specs.declared.info.Info.{Info}
use Rattle.prop_lattice.specs.declared.info.Info.TheVariants.{Nothing, Span, Set, Contradiction}
use Rattle.prop_lattice.specs.declared.span.Span as spans
use Rattle.prop_sets.specs.laws.NarrowestLaws.{bit_from_held}
use Rattle.prop_hall.specs.laws.HullLaws.{below_holds, never}
use Rattle.prop_points.specs.Singles.{IsSingle}
use Rattle.prop_points.proofs.Singles.{bit_of_power, single_bits}
use lib.IntN.{*ℤ_comm}

-- ---- between ends

pub span_from_held : (lo hi v : ℤ) → Holds (span_from lo hi) (Number v) → (lo ≤ℤ v) × (v ≤ℤ hi)
unfolding span_from
span_from_held lo hi v h = by (ends_or_not lo hi) h
  where
    by : (d : AreEnds lo hi ⊎ ¬ (AreEnds lo hi)) → Holds (span_if lo hi d) (Number v) → (lo ≤ℤ v) × (v ≤ℤ hi)
    by (inl d) h = h
    by (inr f) h = absurd h

pub clip_held : (lo hi v : ℤ) → Holds (clip lo hi) (Number v) → (lo ≤ℤ v) × (v ≤ℤ hi)
unfolding clip
clip_held lo hi v h =
    let held = span_from_held (int_max lo (neg_ℤ B)) (int_min hi B) v h in
    (omega (arith, ints, clamps, held.0), omega (arith, ints, clamps, held.1))

-- what the narrowest information holds, each does that holds all
pub narrowest_held : (P : ℤ → Type 0) (r other : Info) → IsNarrowest P r
    → ((v : ℤ) → P v → Holds other (Number v)) → (v : ℤ) → Holds r (Number v) → Holds other (Number v)
narrowest_held P r other n h v k = below_holds other r (Number v) (n.highest other h) k

-- ---- sums and differences

pub sum_exact : (a b : spans.Span) (x y z : ℤ) → IsSingle (Span a) (Number x) → IsSingle (Span b) (Number y)
    → Holds (sum_of a b) (Number z) → IsSum x y z
sum_exact a b x y z e f h =
    let held = clip_held _ _ z h in omega (arith, ints, e.0, e.1, f.0, f.1, held.0, held.1)

pub difference_exact : (a b : spans.Span) (z x y : ℤ) → IsSingle (Span a) (Number z)
    → IsSingle (Span b) (Number x) → Holds (difference_of a b) (Number y) → IsSum x y z
difference_exact a b z x y e f h =
    let held = clip_held _ _ y h in omega (arith, ints, e.0, e.1, f.0, f.1, held.0, held.1)

-- ---- products

scale_after : (k z : ℤ) → (k *ℤ (z +ℤ pos 1)) ≡ ((z *ℤ k) +ℤ k)
scale_after k z = *ℤ_comm k (z +ℤ pos 1) ∙ product-add z (pos 1) k ∙ ap (λ t. (z *ℤ k) +ℤ t) once
  where
    once : (pos 1 *ℤ k) ≡ k
    once = omega (arith, ints)

scale_before : (k z : ℤ) → (k *ℤ (z -ℤ pos 1)) ≡ ((z *ℤ k) -ℤ k)
scale_before k z = *ℤ_comm k (z -ℤ pos 1) ∙ product-add z (neg_ℤ (pos 1)) k ∙ ap (λ t. (z *ℤ k) +ℤ t) once
  where
    once : (neg_ℤ (pos 1) *ℤ k) ≡ neg_ℤ k
    once = omega (arith, ints)

least_same : (w : ℤ) → int_min (int_min w w) (int_min w w) ≡ w
least_same w = omega (arith, ints, clamps)

greatest_same : (w : ℤ) → int_max (int_max w w) (int_max w w) ≡ w
greatest_same w = omega (arith, ints, clamps)

-- a number between the two rounded ones is less than a unit apart
pub rounded_near : (k w z : ℤ) → pos 1 ≤ℤ k → int_div_floor w k ≤ℤ z → z ≤ℤ int_div_ceil w k
    → ((k *ℤ (z -ℤ pos 1)) <ℤ w) × (w <ℤ (k *ℤ (z +ℤ pos 1)))
rounded_near k w z s l h =
    let floor = floor-parts w k (omega (arith, ints, s)) in
    let ceil = ceil-parts w k (omega (arith, ints, s)) in
    let low = product-le (int_div_floor w k) z k l (omega (arith, ints, s)) in
    let high = product-le z (int_div_ceil w k) k h (omega (arith, ints, s)) in
    rw (scale_before k z, scale_after k z)
    (near (int_div_floor w k *ℤ k) (z *ℤ k) (int_div_ceil w k *ℤ k) floor.1 ceil.1 low high)
  where
    near : (f t c : ℤ) → w <ℤ (f +ℤ k) → c <ℤ (w +ℤ k) → f ≤ℤ t → t ≤ℤ c
        → ((t -ℤ k) <ℤ w) × (w <ℤ (t +ℤ k))
    near f t c p q r u = (omega (arith, ints), omega (arith, ints))

pub product_exact : (k : ℤ) → pos 1 ≤ℤ k → (a b : spans.Span) (x y z : ℤ) → IsSingle (Span a) (Number x)
    → IsSingle (Span b) (Number y) → Holds (product_of a b k) (Number z) → IsProduct k x y z
product_exact k s a b x y z e f h =
    let held = clip_held _ _ z h in
    rounded_near k (x *ℤ y) z s (subst (λ t. int_div_floor t k ≤ℤ z) least held.0)
    (subst (λ t. z ≤ℤ int_div_ceil t k) greatest held.1)
  where
    least : least_product a b ≡ x *ℤ y
    least = (λ i. int_min (int_min (e.0 i *ℤ f.0 i) (e.0 i *ℤ f.1 i)) (int_min (e.1 i *ℤ f.0 i) (e.1 i *ℤ f.1 i)))
        ∙ least_same (x *ℤ y)

    greatest : greatest_product a b ≡ x *ℤ y
    greatest =
        (λ i. int_max (int_max (e.0 i *ℤ f.0 i) (e.0 i *ℤ f.1 i)) (int_max (e.1 i *ℤ f.0 i) (e.1 i *ℤ f.1 i)))
        ∙ greatest_same (x *ℤ y)

-- ---- squares and roots

pub square_exact : (a : spans.Span) (x y : ℤ) → IsSingle (Span a) (Number x) → Holds (square_of a) (Number y)
    → IsSquare x y
square_exact a x y e h = by (holds_zero a) refl (clip_held _ _ y h)
  where
    square : ℤ
    square = x *ℤ x

    greatest : int_max (a.lo *ℤ a.lo) (a.hi *ℤ a.hi) ≡ int_max (x *ℤ x) (x *ℤ x)
    greatest i = int_max (e.0 i *ℤ e.0 i) (e.1 i *ℤ e.1 i)

    least : int_min (a.lo *ℤ a.lo) (a.hi *ℤ a.hi) ≡ int_min (x *ℤ x) (x *ℤ x)
    least i = int_min (e.0 i *ℤ e.0 i) (e.1 i *ℤ e.1 i)

    between : (l g w : ℤ) → l ≡ int_min w w → g ≡ int_max w w → l ≤ℤ y → y ≤ℤ g → y ≡ w
    between l g w p q r s = omega (arith, ints, clamps)

    at_zero : (g w : ℤ) → w ≡ pos 0 → g ≡ int_max w w → pos 0 ≤ℤ y → y ≤ℤ g → y ≡ w
    at_zero g w p q r s = omega (arith, ints, clamps)

    by : (t : Bool) → holds_zero a ≡ t
        → ((if t then pos 0 else int_min (a.lo *ℤ a.lo) (a.hi *ℤ a.hi)) ≤ℤ y)
        × (y ≤ℤ int_max (a.lo *ℤ a.lo) (a.hi *ℤ a.hi)) → y ≡ x *ℤ x
    by true z held =
        let in_a = zero_in a z in
        let zero_is : x ≡ pos 0 = omega (arith, ints, e.0, e.1, in_a.0, in_a.1) in
        at_zero _ (x *ℤ x) (ap (λ v. v *ℤ v) zero_is) greatest held.0 held.1
    by false z held = between _ _ (x *ℤ x) least greatest held.0 held.1

pub root_exact : (y x : spans.Span) (w u v : ℤ) → IsSingle (Span y) (Number w) → IsSingle (Span x) (Number u)
    → Holds (root_of y (Some x)) (Number v) → (v ≡ u) × IsSquare u w
root_exact y x w u v e f h = (
  is,
  by_lt_z w (u *ℤ u) (λ l. absurd (none (λ r. omega (arith, ints, e.1, l, r.0))))
      (λ g. by_lt_z (u *ℤ u) w (λ l. absurd (none (λ r. omega (arith, ints, e.0, l, r.1))))
      (λ k. omega (arith, ints, g, k))),
)
  where
    narrowest : IsNarrowest (IsRoot y (Some x)) (root_of y (Some x))
    narrowest = root_of-narrowest y (Some x)

    is : v ≡ u
    is =
        let held = narrowest_held (IsRoot y (Some x)) (root_of y (Some x)) (Span x) narrowest
        (λ t r. (r.from, r.to)) v h in
        omega (arith, ints, f.0, f.1, held.0, held.1)

    -- where u's square isn't w, there is no root
    none : (((u *ℤ u) ≤ℤ y.hi) × (y.lo ≤ℤ (u *ℤ u)) → ⊥) → ⊥
    none differs = narrowest_held (IsRoot y (Some x)) (root_of y (Some x)) Contradiction narrowest no_root v h
      where
        no_root : (t : ℤ) → IsRoot y (Some x) t → ⊥
        no_root t r =
            let same : t ≡ u = omega (arith, ints, f.0, f.1, r.from, r.to) in
            differs (
              subst (λ s. (s *ℤ s) ≤ℤ y.hi) same r.square_to,
              subst (λ s. y.lo ≤ℤ (s *ℤ s)) same r.square_from,
            )

-- ---- less

pub yes_held : (t : ℕ) → Holds (elements_from yes_bits) (Element t) → t ≡ 0
yes_held t h = bit_of_power 0 t (bit_from_held 1 t h)

pub no_held : (t : ℕ) → Holds (elements_from no_bits) (Element t) → t ≡ 1
no_held t h = bit_of_power 1 t (bit_from_held 2 t h)

pub less_exact : (a b : spans.Span) (x y : ℤ) (t : ℕ) → IsSingle (Span a) (Number x)
    → IsSingle (Span b) (Number y) → Holds (less_of a b) (Element t) → SaysLess x y t
less_exact a b x y t e f h = by (int_lt a.hi b.lo) refl (int_le b.hi a.lo) refl h
  where
    by : (r : Bool) → int_lt a.hi b.lo ≡ r → (s : Bool) → int_le b.hi a.lo ≡ s
        → Holds (if r then elements_from yes_bits else (if s then elements_from no_bits else Nothing)) (Element t)
        → SaysLess x y t
    by true g s i k = (λ z. omega (arith, ints, e.1, f.0), λ l. yes_held t k)
    by false g true i k =
        (λ z. absurd (omega (arith, z, no_held t k)), λ l. absurd (omega (arith, ints, e.0, f.1, l)))
    by false g false i k = absurd (omega (arith, ints, e.0, e.1, f.0, f.1))

-- a single truth is `yes` or `no`
pub truth_is : (s : sets.Elements) (i : ℕ) → i < 2 → IsSingle (Set s) (Element i)
    → ((i ≡ 0) × (s.bits ≡ yes_bits)) ⊎ ((i ≡ 1) × (s.bits ≡ no_bits))
truth_is s zero l e = inl (refl, single_bits s 0 e)
truth_is s (suc zero) l e = inr (refl, single_bits s 1 e)
truth_is s (suc (suc i)) l e = absurd (omega (arith, l))

pub below_exact : (t : sets.Elements) (a : spans.Span) (i : ℕ) (y x : ℤ) → i < 2
    → IsSingle (Set t) (Element i) → IsSingle (Span a) (Number y) → Holds (below_of t a) (Number x)
    → SaysLess x y i
below_exact t a i y x l e f h = by (t.bits == yes_bits) refl (t.bits == no_bits) refl (truth_is t i l e) h
  where
    by : (r : Bool) → (t.bits == yes_bits) ≡ r → (s : Bool) → (t.bits == no_bits) ≡ s
        → ((i ≡ 0) × (t.bits ≡ yes_bits)) ⊎ ((i ≡ 1) × (t.bits ≡ no_bits))
        → Holds (if r then span_from (neg_ℤ B) (a.hi -ℤ pos 1)
        else (if s then span_from a.lo B else Nothing)) (Number x) → SaysLess x y i
    by true g s k (inl d) h =
        let held = span_from_held _ _ x h in (λ z. omega (arith, ints, f.1, held.1), λ z. d.0)
    by true g s k (inr d) h = absurd (omega (arith, eqb-true t.bits 1 g, d.1))
    by false g true k (inr d) h =
        let held = span_from_held _ _ x h in
        (λ z. absurd (omega (arith, z, d.0)), λ z. absurd (omega (arith, ints, f.0, held.0, z)))
    by false g s k (inl d) h = absurd (never (sym g ∙ eq-eqb t.bits 1 d.1))
    by false g false k (inr d) h = absurd (never (sym k ∙ eq-eqb t.bits 2 d.1))

pub above_exact : (t : sets.Elements) (a : spans.Span) (i : ℕ) (x y : ℤ) → i < 2
    → IsSingle (Set t) (Element i) → IsSingle (Span a) (Number x) → Holds (above_of t a) (Number y)
    → SaysLess x y i
above_exact t a i x y l e f h = by (t.bits == yes_bits) refl (t.bits == no_bits) refl (truth_is t i l e) h
  where
    by : (r : Bool) → (t.bits == yes_bits) ≡ r → (s : Bool) → (t.bits == no_bits) ≡ s
        → ((i ≡ 0) × (t.bits ≡ yes_bits)) ⊎ ((i ≡ 1) × (t.bits ≡ no_bits))
        → Holds (if r then span_from (a.lo +ℤ pos 1) B
        else (if s then span_from (neg_ℤ B) a.hi else Nothing)) (Number y) → SaysLess x y i
    by true g s k (inl d) h =
        let held = span_from_held _ _ y h in (λ z. omega (arith, ints, f.0, held.0), λ z. d.0)
    by true g s k (inr d) h = absurd (omega (arith, eqb-true t.bits 1 g, d.1))
    by false g true k (inr d) h =
        let held = span_from_held _ _ y h in
        (λ z. absurd (omega (arith, z, d.0)), λ z. absurd (omega (arith, ints, f.1, held.1, z)))
    by false g s k (inl d) h = absurd (never (sym g ∙ eq-eqb t.bits 1 d.1))
    by false g false k (inr d) h = absurd (never (sym k ∙ eq-eqb t.bits 2 d.1))
