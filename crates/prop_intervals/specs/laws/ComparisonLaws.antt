-- What is known of comparing spans.
use Rattle.std.specs.Prelude.{ℕ, ◌<◌, ◌≡◌, ◌≢◌, ◌^◌, ◌/◌, ℤ, pos, neg_ℤ, ◌+ℤ◌, ◌-ℤ◌, ◌<ℤ◌, Bool}
use Rattle.std.specs.Prelude.{true, false, ◌==◌, int_lt, int_le, if◌then◌else◌}
use Rattle.std.specs.Int.{bit_at}
use Rattle.std.specs.Ordering.{int_eq}
use Rattle.std.proofs.Common.{arith, refl, subst, sym, eqb-true, inl, inr}
use Rattle.std.proofs.lemmas.Int.{ints, by_lt_z}
use Rattle.std.proofs.lemmas.Bool.{cases_lt}
use Rattle.std.proofs.lemmas.Bool.Decides.{nat_tests}
use Rattle.std.proofs.lemmas.Nat.{and_le_l}
use Rattle.prop_lattice.specs.declared.span.TheConstants.{B}
use Rattle.prop_lattice.specs.Ends.{span_from, elements_from}
use Rattle.prop_lattice.proofs.EndLemmas.{span_is, elements_from-bits}
use Rattle.prop_lattice.proofs.PartLemmas.{and_from_part, below_from_shr}
use Rattle.prop_lattice.specs.Order.{HasElement, Below}
use Rattle.prop_lattice.specs.laws.OrderLaws.{info_laws}
use Rattle.prop_lattice.specs.laws.Parts.{HasBitsOf}
use Rattle.prop_lattice.specs.Points.{Number, Element, Holds}
use Rattle.prop_lattice.specs.Rank.{IsOf}
use Rattle.prop_lattice.specs.declared.elements.Elements as sets
use Rattle.prop_lattice.specs.declared.span.Span as spans
use Rattle.prop_lattice.specs.declared.info.Info.TheVariants.{Nothing, Span, Set}
use Rattle.prop_lattice.specs.declared.info.Kind.TheVariants as kinds
use Rattle.prop_intervals.specs.laws.ClipLaws.{span_from_below, span_from_of_span, span_from_holds}
use Rattle.prop_intervals.specs.Comparisons.{yes_bits, no_bits}
use Rattle.prop_intervals.specs.inner.Parts.{less_of, below_of, above_of}
use Rattle.prop_intervals.specs.Comparisons.{IsOther, without_of}
use Rattle.prop_intervals.specs.Narrowest.{IsNarrowest}
use Rattle.prop_intervals.specs.laws.NarrowestLaws.{narrowest_below, span_narrowest, none_narrowest}
use Rattle.prop_intervals.specs.laws.Relations.{IsInRange}
use Rattle.prop_intervals.specs.Relations.{SaysLess}

-- ---- truths

truth_kind : (domain bits : ℕ) (some : 0 < bits) (fits : bits < 2 ^ 64) → bits / 2 ^ 2 ≡ 0
    → IsOf (kinds.Set domain) 2 (elements_from bits)
truth_kind domain bits some fits e =
    subst (IsOf (kinds.Set domain) 2)
    (sym (elements_from-bits bits (record { bits = bits; some = some; fits = fits }) refl))
    (below_from_shr bits 2 e)

truth_holds : (bits t : ℕ) (some : 0 < bits) (fits : bits < 2 ^ 64) → bit_at bits t ≡ 1
    → Holds (elements_from bits) (Element t)
truth_holds bits t some fits e =
    subst (λ a. Holds a (Element t))
    (sym (elements_from-bits bits (record { bits = bits; some = some; fits = fits }) refl)) e

-- what is narrower than a single truth is that truth
yes_stays : (t t' : sets.Elements) → Below (Set t) (Set t') → t.bits ≡ 1 → t'.bits ≡ 1
yes_stays t t' p e =
    let part : HasBitsOf 1 t'.bits = rw e at p in
    omega (arith, and_from_part 1 t'.bits part, and_le_l 1 t'.bits)

no_stays : (t t' : sets.Elements) → Below (Set t) (Set t') → t.bits ≡ 2 → t'.bits ≡ 2
no_stays t t' p e =
    let part : HasBitsOf 2 t'.bits = rw e at p in
    elim (cases_lt t'.bits 2) [
      | inl l ↦ absurd (none (part 0 (one t'.bits t'.some l)))
      | inr g ↦ omega (arith, and_from_part 2 t'.bits part, and_le_l 2 t'.bits)
    ]
  where
    none : bit_at 2 0 ≡ 1 → ⊥
    none h = omega arith

    one : (b : ℕ) → 0 < b → b < 2 → bit_at b 0 ≡ 1
    one b h l = let f : b ≡ 1 = omega arith in rw f refl

-- the element of a single truth
yes_element : (t : sets.Elements) (i : ℕ) → t.bits ≡ 1 → HasElement t i → i < 2 → i ≡ 0
yes_element t i e h l = by i l (rw e at h)
  where
    by : (i : ℕ) → i < 2 → bit_at 1 i ≡ 1 → i ≡ 0
    by i l h = elim (cases_lt i 1)
        [ inl k ↦ omega arith | inr g ↦ absurd (let f : i ≡ 1 = omega arith in none (rw f at h)) ]
      where
        none : bit_at 1 1 ≡ 1 → ⊥
        none h = omega arith

no_element : (t : sets.Elements) (i : ℕ) → t.bits ≡ 2 → HasElement t i → i < 2 → i ≡ 1
no_element t i e h l = by i l (rw e at h)
  where
    by : (i : ℕ) → i < 2 → bit_at 2 i ≡ 1 → i ≡ 1
    by i l h = elim (cases_lt i 1)
        [ inl k ↦ absurd (let f : i ≡ 0 = omega arith in none (rw f at h)) | inr g ↦ omega arith ]
      where
        none : bit_at 2 0 ≡ 1 → ⊥
        none h = omega arith

-- ---- whether one is less

pub less_monotone : (x y x' y' : spans.Span) → Below (Span x) (Span x') → Below (Span y) (Span y')
    → Below (less_of x y) (less_of x' y')
less_monotone x y x' y' p q = by (int_lt x.hi y.lo) refl (int_le y.hi x.lo) refl
    (int_lt x'.hi y'.lo) refl (int_le y'.hi x'.lo) refl
  where
    by : (s : Bool) → int_lt x.hi y.lo ≡ s → (t : Bool) → int_le y.hi x.lo ≡ t → (s' : Bool)
        → int_lt x'.hi y'.lo ≡ s' → (t' : Bool) → int_le y'.hi x'.lo ≡ t' →
        Below (if s then elements_from yes_bits else (if t then elements_from no_bits else Nothing))
        (if s' then elements_from yes_bits else (if t' then elements_from no_bits else Nothing))
    by true e t f true e' t' f' = info_laws.reflexive (elements_from yes_bits)
    by true e t f false e' t' f' = absurd (omega (arith, ints, x'.ordered, y'.ordered))
    by false e true f false e' true f' = info_laws.reflexive (elements_from no_bits)
    by false e true f false e' false f' = absurd (omega (arith, ints))
    by false e true f true e' t' f' = absurd (omega (arith, ints, x'.ordered, y'.ordered))
    by false e false f s' e' t' f' = tt

pub less_kind : (domain : ℕ) (x y : spans.Span) → IsOf (kinds.Set domain) 2 (less_of x y)
less_kind domain x y = by (int_lt x.hi y.lo) (int_le y.hi x.lo)
  where
    by : (s t : Bool) → IsOf (kinds.Set domain) 2
        (if s then elements_from yes_bits else (if t then elements_from no_bits else Nothing))
    by true t = truth_kind domain 1 (omega arith) (omega arith) refl
    by false true = truth_kind domain 2 (omega arith) (omega arith) refl
    by false false = tt

pub less_sound : (x y : spans.Span) (u v : ℤ) (i : ℕ) → Holds (Span x) (Number u)
    → Holds (Span y) (Number v) → i < 2 → SaysLess u v i → Holds (less_of x y) (Element i)
less_sound x y u v i p q l r = by (int_lt x.hi y.lo) refl (int_le y.hi x.lo) refl
  where
    by : (s : Bool) → int_lt x.hi y.lo ≡ s → (t : Bool) → int_le y.hi x.lo ≡ t
        → Holds (if s then elements_from yes_bits
        else (if t then elements_from no_bits else Nothing)) (Element i)
    by true e t f = let zero_is : i ≡ 0 =
        r.1 (omega (arith, ints)) in truth_holds 1 i (omega arith) (omega arith) (rw zero_is refl)
    by false e true f = let one_is : i ≡ 1 =
        elim (cases_lt i 1) [ inl k ↦ absurd (clash (r.0 (omega arith))) | inr g ↦ omega arith ]
        in truth_holds 2 i (omega arith) (omega arith) (rw one_is refl)
      where
        clash : u <ℤ v → ⊥
        clash h = omega (arith, ints)
    by false e false f = tt

-- ---- the numbers below

pub below_monotone : (t t' : sets.Elements) (y y' : spans.Span) → Below (Set t) (Set t')
    → Below (Span y) (Span y') → Below (below_of t y) (below_of t' y')
below_monotone t t' y y' p q =
    by (t.bits == yes_bits) refl (t.bits == no_bits) refl (t'.bits == yes_bits) refl
    (t'.bits == no_bits) refl
  where
    by : (s : Bool) → (t.bits == yes_bits) ≡ s → (r : Bool) → (t.bits == no_bits) ≡ r → (s' : Bool)
        → (t'.bits == yes_bits) ≡ s' → (r' : Bool) → (t'.bits == no_bits) ≡ r' →
        Below (if s then span_from (neg_ℤ B) (y.hi -ℤ pos 1)
        else (if r then span_from y.lo B else Nothing))
        (if s' then span_from (neg_ℤ B) (y'.hi -ℤ pos 1)
        else (if r' then span_from y'.lo B else Nothing))
    by true e r f true e' r' f' =
        span_from_below _ _ _ _ (omega (arith, ints)) (omega (arith, ints)) (omega (arith, ints))
        (omega (arith, ints))
    by true e r f false e' r' f' = absurd (differs e' (yes_stays t t' p (eqb-true t.bits 1 e)))
      where
        differs : (t'.bits == yes_bits) ≡ false → t'.bits ≡ 1 → ⊥
        differs g h = grind (arith, nat_tests)
    by false e true f false e' true f' =
        span_from_below _ _ _ _ (omega (arith, ints)) (omega (arith, ints)) (omega (arith, ints))
        (omega (arith, ints))
    by false e true f false e' false f' =
        absurd (differs f' (no_stays t t' p (eqb-true t.bits 2 f)))
      where
        differs : (t'.bits == no_bits) ≡ false → t'.bits ≡ 2 → ⊥
        differs g h = grind (arith, nat_tests)
    by false e true f true e' r' f' =
        absurd (omega (arith, eqb-true t'.bits 1 e', no_stays t t' p (eqb-true t.bits 2 f)))
    by false e false f s' e' r' f' = tt

pub below_kind : (size : ℕ) (t : sets.Elements) (y : spans.Span)
    → IsOf kinds.Span size (below_of t y)
below_kind size t y = by (t.bits == yes_bits) (t.bits == no_bits)
  where
    by : (s r : Bool) → IsOf kinds.Span size
        (if s then span_from (neg_ℤ B) (y.hi -ℤ pos 1)
        else (if r then span_from y.lo B else Nothing))
    by true r = span_from_of_span size _ _
    by false true = span_from_of_span size _ _
    by false false = tt

pub below_sound : (t : sets.Elements) (y : spans.Span) (i : ℕ) (v u : ℤ) → HasElement t i → i < 2
    → Holds (Span y) (Number v) → IsInRange u → SaysLess u v i → Holds (below_of t y) (Number u)
below_sound t y i v u h l p q r = by (t.bits == yes_bits) refl (t.bits == no_bits) refl
  where
    by : (s : Bool) → (t.bits == yes_bits) ≡ s → (o : Bool) → (t.bits == no_bits) ≡ o
        → Holds (if s then span_from (neg_ℤ B) (y.hi -ℤ pos 1)
        else (if o then span_from y.lo B else Nothing)) (Number u)
    by true e o f =
        let less = r.0 (yes_element t i (eqb-true t.bits 1 e) h l) in
        span_from_holds (neg_ℤ B) (y.hi -ℤ pos 1) u q.0 (omega (arith, ints)) (omega (arith, ints))
        (omega (arith, ints))
    by false e true f =
        let element = no_element t i (eqb-true t.bits 2 f) h l in
        by_lt_z u v (λ k. absurd (omega (arith, r.1 k)))
        (λ g. span_from_holds y.lo B u (omega (arith, ints)) q.1 y.above (omega (arith, ints)))
    by false e false f = tt

-- ---- the numbers above

pub above_monotone : (t t' : sets.Elements) (x x' : spans.Span) → Below (Set t) (Set t')
    → Below (Span x) (Span x') → Below (above_of t x) (above_of t' x')
above_monotone t t' x x' p q =
    by (t.bits == yes_bits) refl (t.bits == no_bits) refl (t'.bits == yes_bits) refl
    (t'.bits == no_bits) refl
  where
    by : (s : Bool) → (t.bits == yes_bits) ≡ s → (r : Bool) → (t.bits == no_bits) ≡ r → (s' : Bool)
        → (t'.bits == yes_bits) ≡ s' → (r' : Bool) → (t'.bits == no_bits) ≡ r' →
        Below (if s then span_from (x.lo +ℤ pos 1) B
        else (if r then span_from (neg_ℤ B) x.hi else Nothing))
        (if s' then span_from (x'.lo +ℤ pos 1) B
        else (if r' then span_from (neg_ℤ B) x'.hi else Nothing))
    by true e r f true e' r' f' =
        span_from_below _ _ _ _ (omega (arith, ints)) (omega (arith, ints)) (omega (arith, ints))
        (omega (arith, ints))
    by true e r f false e' r' f' = absurd (differs e' (yes_stays t t' p (eqb-true t.bits 1 e)))
      where
        differs : (t'.bits == yes_bits) ≡ false → t'.bits ≡ 1 → ⊥
        differs g h = grind (arith, nat_tests)
    by false e true f false e' true f' =
        span_from_below _ _ _ _ (omega (arith, ints)) (omega (arith, ints)) (omega (arith, ints))
        (omega (arith, ints))
    by false e true f false e' false f' =
        absurd (differs f' (no_stays t t' p (eqb-true t.bits 2 f)))
      where
        differs : (t'.bits == no_bits) ≡ false → t'.bits ≡ 2 → ⊥
        differs g h = grind (arith, nat_tests)
    by false e true f true e' r' f' =
        absurd (omega (arith, eqb-true t'.bits 1 e', no_stays t t' p (eqb-true t.bits 2 f)))
    by false e false f s' e' r' f' = tt

pub above_kind : (size : ℕ) (t : sets.Elements) (x : spans.Span)
    → IsOf kinds.Span size (above_of t x)
above_kind size t x = by (t.bits == yes_bits) (t.bits == no_bits)
  where
    by : (s r : Bool) → IsOf kinds.Span size
        (if s then span_from (x.lo +ℤ pos 1) B
        else (if r then span_from (neg_ℤ B) x.hi else Nothing))
    by true r = span_from_of_span size _ _
    by false true = span_from_of_span size _ _
    by false false = tt

pub above_sound : (t : sets.Elements) (x : spans.Span) (i : ℕ) (u v : ℤ) → HasElement t i → i < 2
    → Holds (Span x) (Number u) → IsInRange v → SaysLess u v i → Holds (above_of t x) (Number v)
above_sound t x i u v h l p q r = by (t.bits == yes_bits) refl (t.bits == no_bits) refl
  where
    by : (s : Bool) → (t.bits == yes_bits) ≡ s → (o : Bool) → (t.bits == no_bits) ≡ o
        → Holds (if s then span_from (x.lo +ℤ pos 1) B
        else (if o then span_from (neg_ℤ B) x.hi else Nothing)) (Number v)
    by true e o f =
        let less = r.0 (yes_element t i (eqb-true t.bits 1 e) h l) in
        span_from_holds (x.lo +ℤ pos 1) B v (omega (arith, ints)) q.1 (omega (arith, ints))
        (omega (arith, ints))
    by false e true f =
        let element = no_element t i (eqb-true t.bits 2 f) h l in
        by_lt_z u v (λ k. absurd (omega (arith, r.1 k)))
        (λ g. span_from_holds (neg_ℤ B) x.hi v q.0 (omega (arith, ints)) (omega (arith, ints))
        x.below)
    by false e false f = tt

-- ---- leaving out a number

pub without_of-narrowest : (y : spans.Span) (x : ℤ) → IsNarrowest (IsOther y x) (without_of y x)
without_of-narrowest y x = by (int_eq y.lo x) refl (int_eq y.hi x) refl
  where
    by : (s : Bool) → int_eq y.lo x ≡ s → (t : Bool) → int_eq y.hi x ≡ t
        → IsNarrowest (IsOther y x) (if s then span_from (y.lo +ℤ pos 1) y.hi
        else (if t then span_from y.lo (y.hi -ℤ pos 1) else Span y))
    by true e t f = by_lt_z y.lo y.hi
        (λ l. span_narrowest (IsOther y x) (y.lo +ℤ pos 1) y.hi (omega (arith, ints)) y.below
        (grind (arith, ints)) (grind (arith, ints)) (λ v p. (grind (arith, ints), p.1)))
        (λ l. none_narrowest (IsOther y x) (y.lo +ℤ pos 1) y.hi (λ h. omega (arith, ints))
        (λ v p. grind (arith, ints)))
    by false e true f = span_narrowest (IsOther y x) y.lo (y.hi -ℤ pos 1) y.above
        (omega (arith, ints)) (grind (arith, ints)) (grind (arith, ints))
        (λ v p. (p.0, grind (arith, ints)))
    by false e false f = subst (IsNarrowest (IsOther y x)) (sym (span_is y.lo y.hi y refl refl))
        (span_narrowest (IsOther y x) y.lo y.hi y.above y.below (grind (arith, ints))
        (grind (arith, ints)) (λ v p. (p.0, p.1)))

pub without_monotone : (y y' : spans.Span) (x : ℤ) → Below (Span y) (Span y')
    → Below (without_of y x) (without_of y' x)
without_monotone y y' x p = narrowest_below (IsOther y x) (IsOther y' x) (without_of y x)
    (without_of y' x) (without_of-narrowest y x) (without_of-narrowest y' x)
    (λ v h. (omega (arith, ints), omega (arith, ints), h.2))

pub without_kind : (size : ℕ) (y : spans.Span) (x : ℤ) → IsOf kinds.Span size (without_of y x)
without_kind size y x = by (int_eq y.lo x) (int_eq y.hi x)
  where
    by : (s t : Bool) → IsOf kinds.Span size
        (if s then span_from (y.lo +ℤ pos 1) y.hi
        else (if t then span_from y.lo (y.hi -ℤ pos 1) else Span y))
    by true t = span_from_of_span size _ _
    by false true = span_from_of_span size _ _
    by false false = tt

pub without_sound : (y : spans.Span) (x v : ℤ) → Holds (Span y) (Number v) → v ≢ x
    → Holds (without_of y x) (Number v)
without_sound y x v h n = (without_of-narrowest y x).holds v (h.0, h.1, n)
