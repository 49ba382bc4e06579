-- The laws of the functions that compare.
use Rattle.std.specs.Prelude.{◌≡◌, ◌≢◌, ◌↔◌, ℕ, ℤ, ◌<◌, Bool, true, false, ◌==◌, ◌&&◌}
use Rattle.std.specs.Prelude.{if◌then◌else◌, List, [], ◌∷◌, count_ones, bit_and}
use Rattle.std.specs.Int.{int_max, int_min}
use Rattle.std.specs.Ordering.{int_eq}
use Rattle.std.proofs.Common.{arith, refl, rules, ap, sym, subst, ◌∙◌, inl, inr, eqb-true, eq-eqb}
use Rattle.std.proofs.lemmas.Bool.{and_parts, cases_eq}
use Rattle.std.proofs.lemmas.Bool.Decides.{Decides-int_eq}
use Rattle.std.proofs.lemmas.Int.{ints, clamps}
use Rattle.std.proofs.lemmas.Nat.{and_le_l}
use Rattle.std.proofs.lemmas.Nat.Bits.{bit_at_and}
use Rattle.prop_intervals.specs.laws.ClipLaws.{span_from_holds}
use Rattle.prop_intervals.specs.laws.ComparisonLaws as comparisons
use Rattle.prop_intervals.specs.laws.ComparisonLaws.{less_sound}
use Rattle.prop_intervals.specs.Comparisons as number_others
use Rattle.prop_intervals.specs.Comparisons.{yes_bits, no_bits}
use Rattle.prop_intervals.specs.inner.Parts.{less_of}
use Rattle.prop_intervals.specs.laws.Relations.{IsInRange}
use Rattle.prop_intervals.specs.Relations.{SaysLess}
use Rattle.prop_lattice.proofs.PartLemmas.{below_from_shr}
use Rattle.prop_lattice.specs.Ends.{elements_from}
use Rattle.prop_lattice.specs.Order.{Below, HasElement, merge_of, is_contradiction}
use Rattle.prop_lattice.specs.laws.OrderLaws.{info_laws}
use Rattle.prop_lattice.specs.Points.{Point, Number, Element, Symbol, Holds, IsPointOf}
use Rattle.prop_lattice.specs.Rank.{IsOf}
use Rattle.prop_lattice.specs.declared.elements.Elements as sets
use Rattle.prop_lattice.specs.declared.info.Info.{Info}
use Rattle.prop_lattice.specs.declared.info.Info.TheVariants.{Nothing, Span, Set, Sym}
use Rattle.prop_lattice.specs.declared.info.Info.TheVariants.{Contradiction}
use Rattle.prop_lattice.specs.declared.info.Kind.{Kind}
use Rattle.prop_lattice.specs.declared.info.Kind.TheVariants as kinds
use Rattle.prop_lattice.specs.declared.span.Span as spans
use Rattle.prop_procedures.specs.declared.shape.Kinded.{Kinded}
use Rattle.prop_procedures.specs.declared.shape.Shape.{Shape}
use Rattle.prop_procedures.specs.declared.shape.Shape.TheVariants.{Truth, Any, Span as SpanShape}
use Rattle.prop_procedures.specs.Rules.{EachHolds}
use Rattle.prop_procedures.specs.inner.Places.{AreOf, ArePointsOf}
use Rattle.prop_sets.specs.laws.NarrowestLaws.{elements_hold, elements_of_kind}
use Rattle.prop_sets.specs.laws.OtherLaws as others
use Rattle.prop_sets.specs.Others as element_others
use Rattle.prop_arith.specs.Comparing.{is_single, others_of}
use Rattle.prop_arith.specs.inner.Compared.{is_just}
use Rattle.prop_arith.specs.inner.Compared.{comparer_of, first_element}
use Rattle.prop_arith.specs.laws.Combined.{RelatesAlike, RelatesApart, RelatesByTruth}
use Rattle.prop_arith.specs.laws.Combined.{RelatesToTruth, at_three, at_two, on_spans, on_truth}
use Rattle.prop_arith.specs.laws.Combined.{parter_of, told_alike}
use Rattle.prop_arith.specs.laws.SingleLaws.{never, single_element, single_stays, single_points}
use Rattle.prop_arith.specs.laws.SingleLaws.{just_stays, no_single, no_element}

-- ---- less

pub lesser_sound : (args : List Info) (points : List Point) (point : Point)
    → IsPointOf (kinds.Set 0) 2 point → EachHolds args points → RelatesToTruth SaysLess points point
    → Holds (at_two (on_spans less_of) args) point
lesser_sound (Span a ∷ Span b ∷ []) (Number u ∷ Number v ∷ []) (Element i) k e r =
    less_sound a b u v i e.0 e.1.0 k r
lesser_sound args points point k e r = search rules

pub by_truth_below : (f : sets.Elements → spans.Span → Info)
    → ((t t' : sets.Elements) (a c : spans.Span) → Below (Set t) (Set t') → Below (Span a) (Span c)
    → Below (f t a) (f t' c)) → (t x t' x' : Info) → Below t t' → Below x x' → t' ≢ Contradiction
    → x' ≢ Contradiction → Below (on_truth f t x) (on_truth f t' x')
by_truth_below f h (Set t) (Span a) (Set t') (Span c) p q n m = h t t' a c p q
by_truth_below f h (Set t) (Span a) Contradiction x' p q n m = absurd (n refl)
by_truth_below f h (Set t) (Span a) (Set t') Contradiction p q n m = absurd (m refl)
by_truth_below f h t x t' x' p q n m = search rules

pub by_truth_kind : (f : sets.Elements → spans.Span → Info)
    → ((t : sets.Elements) (a : spans.Span) → IsOf kinds.Span 0 (f t a)) → (t x : Info)
    → IsOf kinds.Span 0 (on_truth f t x)
by_truth_kind f h (Set t) (Span a) = h t a
by_truth_kind f h t x = tt

pub by_truth_sound : (f : sets.Elements → spans.Span → Info) (related : ℕ → ℤ → ℤ → Type 0)
    → ((t : sets.Elements) (a : spans.Span) (i : ℕ) (v w : ℤ) → HasElement t i → i < 2
    → Holds (Span a) (Number v) → IsInRange w → related i v w → Holds (f t a) (Number w))
    → (any : Shape → Kinded) (args : List Info) (points : List Point) (point : Point)
    → ArePointsOf any (Truth ∷ SpanShape ∷ []) points → IsPointOf kinds.Span 0 point
    → EachHolds args points → RelatesByTruth related points point
    → Holds (at_two (on_truth f) args) point
by_truth_sound f related h any (Set t ∷ Span a ∷ []) (Element i ∷ Number v ∷ []) (Number w) ps k e
    r = h t a i v w e.0 ps.0 e.1.0 k r
by_truth_sound f related h any args points point ps k e r = search rules

-- ---- merging

-- what two informations hold, they hold together
merge_holds : (a b : Info) (p : Point) → Holds a p → Holds b p → Holds (merge_of a b) p
merge_holds Nothing b p h k = k
merge_holds (Span a) Nothing p h k = h
merge_holds (Set a) Nothing p h k = h
merge_holds (Sym a) Nothing p h k = h
merge_holds Contradiction Nothing p h k = h
merge_holds (Span a) (Span b) (Number v) h k =
    span_from_holds (int_max a.lo b.lo) (int_min a.hi b.hi) v
    (omega (arith, ints, clamps, h.0, k.0)) (omega (arith, ints, clamps, h.1, k.1))
    (omega (arith, ints, clamps, a.above, b.above))
    (omega (arith, ints, clamps, a.below, b.below))
merge_holds (Set a) (Set b) (Element i) h k =
    elements_hold (bit_and a.bits b.bits) (omega (arith, and_le_l a.bits b.bits, a.fits)) i
    (omega (arith, bit_at_and a.bits b.bits i, h, k))
merge_holds (Sym a) (Sym b) (Symbol c) h k = by (a == b) refl
  where
    by : (s : Bool) → (a == b) ≡ s → Holds (if s then Sym a else Contradiction) (Symbol c)
    by true e = h
    by false e = absurd (never (sym e ∙ eq-eqb a b (h ∙ sym k)))
merge_holds a b p h k = search rules

merge_below : (x y x' y' : Info) → Below x x' → Below y y' → Below (merge_of x y) (merge_of x' y')
merge_below x y x' y' p q =
    let above = info_laws.least_above x' y' in
    (info_laws.least_above x y).least (merge_of x' y')
    (info_laws.transitive x x' (merge_of x' y') p above.above_first)
    (info_laws.transitive y y' (merge_of x' y') q above.above_second)

contradiction_is : (a : Info) → is_contradiction a ≡ true → a ≡ Contradiction
contradiction_is Contradiction e = refl
contradiction_is Nothing e = absurd (never e)
contradiction_is (Span a) e = absurd (never e)
contradiction_is (Set a) e = absurd (never e)
contradiction_is (Sym a) e = absurd (never e)

contradiction_stays : (a b : Info) → Below a b → is_contradiction a ≡ true
    → is_contradiction b ≡ true
contradiction_stays a b p e =
    ap is_contradiction (info_laws.antisymmetric b Contradiction (info_laws.to_top b)
    (subst (λ x. Below x b) (contradiction_is a e) p))

-- ---- the same

yes_holds : (t : ℕ) → t ≡ 0 → Holds (elements_from yes_bits) (Element t)
yes_holds t e = subst (λ i. Holds (elements_from yes_bits) (Element i)) (sym e)
    (elements_hold yes_bits (omega arith) 0 refl)

no_holds : (t : ℕ) → t ≡ 1 → Holds (elements_from no_bits) (Element t)
no_holds t e = subst (λ i. Holds (elements_from no_bits) (Element i)) (sym e)
    (elements_hold no_bits (omega arith) 1 refl)

pub comparer_below : (x y x' y' : Info) → Below x x' → Below y y' → x' ≢ Contradiction
    → y' ≢ Contradiction → Below (comparer_of x y) (comparer_of x' y')
comparer_below x y x' y' p q n m =
    by (is_contradiction (merge_of x y)) refl (is_single x && is_single y) refl
    (is_contradiction (merge_of x' y')) refl (is_single x' && is_single y') refl
  where
    same : (is_single x && is_single y) ≡ true → (x ≡ x') × (y ≡ y')
    same f =
        let parts = and_parts (is_single x) (is_single y) f in
        (single_stays x x' p n parts.0, single_stays y y' q m parts.1)

    by : (s : Bool) → is_contradiction (merge_of x y) ≡ s → (t : Bool)
        → (is_single x && is_single y) ≡ t → (s' : Bool) → is_contradiction (merge_of x' y') ≡ s'
        → (t' : Bool) → (is_single x' && is_single y') ≡ t'
        → Below (told_alike s t) (told_alike s' t')
    by true e t f true e' t' f' = info_laws.reflexive (elements_from no_bits)
    by true e t f false e' t' f' =
        absurd (never (sym e' ∙ contradiction_stays _ _ (merge_below x y x' y' p q) e))
    by false e true f true e' t' f' =
        let is = same f in
        absurd (never (sym e ∙ (λ i. is_contradiction (merge_of (is.0 i) (is.1 i))) ∙ e'))
    by false e true f false e' true f' = info_laws.reflexive (elements_from yes_bits)
    by false e true f false e' false f' =
        let is = same f in
        absurd (never (sym f' ∙ (λ i. is_single (sym is.0 i) && is_single (sym is.1 i)) ∙ f))
    by false e false f s' e' t' f' = tt

pub comparer_kind : (x y : Info) → IsOf (kinds.Set 0) 2 (comparer_of x y)
comparer_kind x y = by (is_contradiction (merge_of x y)) (is_single x && is_single y)
  where
    by : (s t : Bool) → IsOf (kinds.Set 0) 2 (told_alike s t)
    by true t = elements_of_kind 0 2 no_bits (below_from_shr no_bits 2 refl)
    by false true = elements_of_kind 0 2 yes_bits (below_from_shr yes_bits 2 refl)
    by false false = tt

same_point : (x y : Info) (p q : Point) → is_contradiction (merge_of x y) ≡ false
    → is_single x ≡ true → is_single y ≡ true → Holds x p → Holds y q → p ≡ q
same_point x y p q e f g h k =
    let above = info_laws.least_above x y in
    let first = single_stays x (merge_of x y) above.above_first some f in
    let second = single_stays y (merge_of x y) above.above_second some g in
    single_points x p q f h (subst (λ a. Holds a q) (second ∙ sym first) k)
  where
    some : merge_of x y ≢ Contradiction
    some is = never (sym e ∙ ap is_contradiction is)

comparer_holds : (x y : Info) (p q : Point) (t : ℕ) → t < 2 → Holds x p → Holds y q
    → (t ≡ 0) ↔ (p ≡ q) → Holds (comparer_of x y) (Element t)
comparer_holds x y p q t l h k r =
    by (is_contradiction (merge_of x y)) refl (is_single x && is_single y) refl
  where
    both : t ≡ 0 → Holds (merge_of x y) p
    both zero = merge_holds x y p h (subst (Holds y) (sym (r.0 zero)) k)

    by : (d : Bool) → is_contradiction (merge_of x y) ≡ d → (s : Bool)
        → (is_single x && is_single y) ≡ s → Holds (told_alike d s) (Element t)
    by true e s f = elim (cases_eq t 0) [
      | inl zero ↦ absurd (subst (λ a. Holds a p) (contradiction_is _ e) (both zero))
      | inr other ↦ no_holds t (omega arith)
    ]
    by false e true f =
        let parts = and_parts (is_single x) (is_single y) f in
        yes_holds t (r.1 (same_point x y p q e parts.0 parts.1 h k))
    by false e false f = tt

pub comparer_sound : (args : List Info) (points : List Point) (point : Point)
    → IsPointOf (kinds.Set 0) 2 point → EachHolds args points → RelatesAlike points point
    → Holds (at_two comparer_of args) point
comparer_sound (x ∷ y ∷ []) (p ∷ q ∷ []) (Element t) k e r = comparer_holds x y p q t k e.0 e.1.0 r
comparer_sound args points point k e r = search rules

-- ---- another

-- more is known of y
others_below : (x y y' : Info) → Below y y' → y' ≢ Contradiction
    → Below (others_of x y) (others_of x y')
others_below (Span x) (Span y) (Span y') q m = by (int_eq x.lo x.hi)
  where
    by : (s : Bool) → Below (if s then number_others.without_of y x.lo else Nothing)
        (if s then number_others.without_of y' x.lo else Nothing)
    by true = comparisons.without_monotone y y' x.lo q
    by false = tt
others_below (Set x) (Set y) (Set y') q m = by (count_ones x.bits == 1)
  where
    by : (s : Bool) → Below (if s then element_others.without_of y (first_element x) else Nothing)
        (if s then element_others.without_of y' (first_element x) else Nothing)
    by true = others.without_monotone y y' (first_element x) q
    by false = tt
others_below (Sym x) (Sym y) (Sym y') q m =
    subst (λ z. Below (others_of (Sym x) (Sym y)) (others_of (Sym x) (Sym z))) q
    (info_laws.reflexive (others_of (Sym x) (Sym y)))
others_below x (Span y) Contradiction q m = absurd (m refl)
others_below x (Set y) Contradiction q m = absurd (m refl)
others_below x (Sym y) Contradiction q m = absurd (m refl)
others_below x y y' q m = search rules

-- x doesn't leave one point alone
others_none : (x y : Info) → is_single x ≡ false → others_of x y ≡ Nothing
others_none (Span x) (Span y) e = rw e refl
others_none (Set x) (Set y) e = rw e refl
others_none (Sym x) (Sym y) e = absurd (never (sym e))
others_none x y e = search rules

others_more : (x y x' y' : Info) → Below x x' → Below y y' → x' ≢ Contradiction → y' ≢ Contradiction
    → Below (others_of x y) (others_of x' y')
others_more x y x' y' p q n m = by (is_single x) refl
  where
    by : (s : Bool) → is_single x ≡ s → Below (others_of x y) (others_of x' y')
    by true e = subst (λ a. Below (others_of x y) (others_of a y')) (single_stays x x' p n e)
        (others_below x y y' q m)
    by false e = subst (λ a. Below a (others_of x' y')) (sym (others_none x y e)) tt

pub parter_below : (t x y t' x' y' : Info) → Below t t' → Below x x' → Below y y'
    → t' ≢ Contradiction → x' ≢ Contradiction → y' ≢ Contradiction
    → Below (parter_of t x y) (parter_of t' x' y')
parter_below t x y t' x' y' o p q l n m = by (is_just no_bits t) refl (is_just no_bits t') refl
  where
    by : (s : Bool) → is_just no_bits t ≡ s → (s' : Bool) → is_just no_bits t' ≡ s'
        → Below (if s then others_of x y else Nothing) (if s' then others_of x' y' else Nothing)
    by true e true e' = others_more x y x' y' p q n m
    by true e false e' = absurd (never (sym e' ∙ just_stays no_bits t t' no_single o l e))
    by false e s' e' = tt

others_kind : (kind : Kind) (size : ℕ) (x y : Info) → IsOf kind size y
    → IsOf kind size (others_of x y)
others_kind kinds.Span size (Span x) (Span y) h = by (int_eq x.lo x.hi)
  where
    by : (s : Bool) → IsOf kinds.Span size (if s then number_others.without_of y x.lo else Nothing)
    by true = comparisons.without_kind size y x.lo
    by false = tt
others_kind (kinds.Set domain) size (Set x) (Set y) h = by (count_ones x.bits == 1)
  where
    by : (s : Bool) → IsOf (kinds.Set domain) size
        (if s then element_others.without_of y (first_element x) else Nothing)
    by true = others.without_kind domain size y (first_element x) h
    by false = tt
others_kind kinds.Symbol size (Sym x) (Sym y) h = by (x == y)
  where
    by : (s : Bool) → IsOf kinds.Symbol size (if s then Contradiction else Sym y)
    by true = tt
    by false = tt
others_kind kind size x y h = search rules

pub parter_kind : (any : Shape → Kinded) (args : List Info)
    → AreOf any (Truth ∷ Any 0 ∷ Any 0 ∷ []) args
    → IsOf (any (Any 0)).kind (any (Any 0)).size (at_three parter_of args)
parter_kind any (t ∷ x ∷ y ∷ []) h = by (is_just no_bits t)
  where
    by : (s : Bool) → IsOf (any (Any 0)).kind (any (Any 0)).size
        (if s then others_of x y else Nothing)
    by true = others_kind (any (Any 0)).kind (any (Any 0)).size x y h.1.1.0
    by false = search rules
parter_kind any args h = search rules

-- another point of y is left
others_hold : (x y : Info) (p q : Point) → Holds x p → Holds y q → q ≢ p → Holds (others_of x y) q
others_hold (Span x) (Span y) (Number u) (Number v) h k n = by (int_eq x.lo x.hi) refl
  where
    by : (s : Bool) → int_eq x.lo x.hi ≡ s
        → Holds (if s then number_others.without_of y x.lo else Nothing) (Number v)
    by true e =
        let same : x.lo ≡ x.hi = (Decides-int_eq x.lo x.hi).0 e in
        comparisons.without_sound y x.lo v k (λ is. n (ap Number (omega (arith, ints, h.0, h.1))))
    by false e = tt
others_hold (Set x) (Set y) (Element i) (Element j) h k n = by (count_ones x.bits == 1) refl
  where
    by : (s : Bool) → (count_ones x.bits == 1) ≡ s
        → Holds (if s then element_others.without_of y (first_element x) else Nothing) (Element j)
    by true e = others.without_sound y (first_element x) j k
        (λ is. n (ap Element (is ∙ sym (single_element x i e h))))
    by false e = tt
others_hold (Sym x) (Sym y) (Symbol c) (Symbol d) h k n = by (x == y) refl
  where
    by : (s : Bool) → (x == y) ≡ s → Holds (if s then Contradiction else Sym y) (Symbol d)
    by true e = absurd (n (ap Symbol (sym k ∙ sym (eqb-true x y e) ∙ h)))
    by false e = k
others_hold x y p q h k n = search rules

pub parter_sound : (args : List Info) (points : List Point) (point : Point) → EachHolds args points
    → RelatesApart points point → Holds (at_three parter_of args) point
parter_sound (t ∷ x ∷ y ∷ []) (Element i ∷ p ∷ q ∷ []) z e r = by (is_just no_bits t) refl
  where
    by : (s : Bool) → is_just no_bits t ≡ s → Holds (if s then others_of x y else Nothing) z
    by true f =
        let held = subst (Holds y) (sym r.0) e.1.1.0 in
        others_hold x y p z e.1.0 held (r.1 (no_element t i f e.0))
    by false f = tt
parter_sound args points point e r = search rules
