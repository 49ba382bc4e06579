-- The laws of what different values tell about one more.
use Rattle.std.specs.Prelude.{◌≡◌, ◌⊎◌, ℕ, suc, ◌<◌, ◌≤◌, ◌^◌, ℤ, pos, ◌≤ℤ◌, ◌<ℤ◌, ◌+ℤ◌, ◌-ℤ◌}
use Rattle.std.specs.Prelude.{nat_lt, ◌==◌, Bool, true, false, if◌then◌else◌, List, [], ◌∷◌, length}
use Rattle.std.specs.Prelude.{map}
use Rattle.std.specs.Prelude.{bit_and}
use Rattle.std.specs.Bool.{Decides}
use Rattle.std.specs.Int.{bit_at, bit_not, w64}
use Rattle.std.specs.List.{AllByRecursion as Each, AllZip}
use Rattle.std.proofs.Common.{arith, refl, rules, ap, sym, subst, ◌∙◌, inl, inr, eqb-true, eq-eqb}
use Rattle.std.proofs.lemmas.Bool.{cases_lt, cases_eq}
use Rattle.std.proofs.lemmas.Bool.Decides.{nat_tests}
use Rattle.std.proofs.lemmas.Int.{ints, by_lt_z}
use Rattle.std.proofs.lemmas.Nat.{and_le_l}
use Rattle.std.proofs.lemmas.Nat.Bits.{bit_at_and, bit_at_not, bit_at_above, bit_at-lt}
use Rattle.prop_intervals.specs.laws.ClipLaws.{span_from_below, span_from_holds, span_from_of_span}
use Rattle.prop_lattice.specs.Order.{Below}
use Rattle.prop_lattice.specs.Points.{Point, Number, Element, Symbol, Holds}
use Rattle.prop_lattice.specs.Rank.{IsOf}
use Rattle.prop_lattice.specs.declared.elements.Elements as sets
use Rattle.prop_lattice.specs.declared.info.Info.{Info}
use Rattle.prop_lattice.specs.declared.info.Info.TheVariants.{Nothing, Span, Set, Sym}
use Rattle.prop_lattice.specs.declared.info.Info.TheVariants.{Contradiction}
use Rattle.prop_lattice.specs.declared.info.Kind.{Kind}
use Rattle.prop_lattice.specs.declared.info.Kind.TheVariants as kinds
use Rattle.prop_lattice.specs.declared.span.Span as spans
use Rattle.prop_lattice.specs.laws.OrderLaws.{info_laws, to_top}
use Rattle.prop_lattice.specs.laws.PartLaws.{part_left}
use Rattle.prop_lattice.specs.laws.Parts.{HasBitsOf}
use Rattle.prop_procedures.specs.Rules.{EachBelow, EachHolds}
use Rattle.prop_sets.specs.laws.NarrowestLaws.{elements_below, elements_hold, elements_of_kind}
use Rattle.prop_hall.specs.Excluding.{told, told_by, excluded_of}
use Rattle.prop_hall.specs.Hulls.{hull_of, points_in, without_of, first_without, last_without}
use Rattle.prop_hall.specs.Hulls.{is_between}
use Rattle.prop_hall.specs.Points.{AreDifferent, IsNoneOf}
use Rattle.prop_hall.specs.Selections.{selections}
use Rattle.prop_hall.specs.laws.HullLaws.{never, above_span, above_set, below_holds, hull_first}
use Rattle.prop_hall.specs.laws.HullLaws.{hull_second, hull_below}
use Rattle.prop_hall.specs.laws.HullLaws.{fewer_points}
use Rattle.prop_hall.specs.laws.MergeLaws.{all_below, all_hold, all_of_kind}
use Rattle.prop_hall.specs.laws.PigeonLaws.{no_more_points}
use Rattle.prop_hall.specs.laws.SelectionLaws.{each_append, each_map, each_weaker, zip_map}
use Rattle.prop_hall.specs.laws.SelectionLaws.{selections_below, selections_hold}
use Rattle.prop_hall.specs.laws.SelectionLaws.{none_selected, different_selected, each_both}

-- ---- numbers without those of a span

between-Decides : (s : spans.Span) (v : ℤ) → Decides (is_between s v) ((s.lo ≤ℤ v) × (v ≤ℤ s.hi))
between-Decides s v = (λ e. grind (arith, ints), λ h. grind (arith, ints))

pub cases_le : (a b : ℤ) → (a ≤ℤ b) ⊎ (b <ℤ a)
cases_le a b = by_lt_z b a (λ l. inr l) (λ le. inl le)

-- an end that lies in the span goes to beside it, another stays
pub first_is : (y h : spans.Span)
    → ((h.lo ≤ℤ y.lo) × (y.lo ≤ℤ h.hi) × (first_without y h ≡ h.hi +ℤ pos 1))
    ⊎ (((h.lo ≤ℤ y.lo) × (y.lo ≤ℤ h.hi) → ⊥) × (first_without y h ≡ y.lo))
first_is y h = by (is_between h y.lo) (between-Decides h y.lo)
  where
    by : (t : Bool) → Decides t ((h.lo ≤ℤ y.lo) × (y.lo ≤ℤ h.hi))
        → ((h.lo ≤ℤ y.lo) × (y.lo ≤ℤ h.hi)
        × ((if t then h.hi +ℤ pos 1 else y.lo) ≡ h.hi +ℤ pos 1))
        ⊎ (((h.lo ≤ℤ y.lo) × (y.lo ≤ℤ h.hi) → ⊥)
        × ((if t then h.hi +ℤ pos 1 else y.lo) ≡ y.lo))
    by true d = inl ((d.0 refl).0, (d.0 refl).1, refl)
    by false d = inr (λ i. never (d.1 i), refl)

pub last_is : (y h : spans.Span)
    → ((h.lo ≤ℤ y.hi) × (y.hi ≤ℤ h.hi) × (last_without y h ≡ h.lo -ℤ pos 1))
    ⊎ (((h.lo ≤ℤ y.hi) × (y.hi ≤ℤ h.hi) → ⊥) × (last_without y h ≡ y.hi))
last_is y h = by (is_between h y.hi) (between-Decides h y.hi)
  where
    by : (t : Bool) → Decides t ((h.lo ≤ℤ y.hi) × (y.hi ≤ℤ h.hi))
        → ((h.lo ≤ℤ y.hi) × (y.hi ≤ℤ h.hi)
        × ((if t then h.lo -ℤ pos 1 else y.hi) ≡ h.lo -ℤ pos 1))
        ⊎ (((h.lo ≤ℤ y.hi) × (y.hi ≤ℤ h.hi) → ⊥)
        × ((if t then h.lo -ℤ pos 1 else y.hi) ≡ y.hi))
    by true d = inl ((d.0 refl).0, (d.0 refl).1, refl)
    by false d = inr (λ i. never (d.1 i), refl)

pub first_later : (y h : spans.Span) → y.lo ≤ℤ first_without y h
first_later y h = by (first_is y h)
  where
    by : ((h.lo ≤ℤ y.lo) × (y.lo ≤ℤ h.hi) × (first_without y h ≡ h.hi +ℤ pos 1))
        ⊎ (((h.lo ≤ℤ y.lo) × (y.lo ≤ℤ h.hi) → ⊥) × (first_without y h ≡ y.lo))
        → y.lo ≤ℤ first_without y h
    by (inl i) = omega (arith, ints, i.1, i.2)
    by (inr o) = omega (arith, ints, o.1)

pub last_earlier : (y h : spans.Span) → last_without y h ≤ℤ y.hi
last_earlier y h = by (last_is y h)
  where
    by : ((h.lo ≤ℤ y.hi) × (y.hi ≤ℤ h.hi) × (last_without y h ≡ h.lo -ℤ pos 1))
        ⊎ (((h.lo ≤ℤ y.hi) × (y.hi ≤ℤ h.hi) → ⊥) × (last_without y h ≡ y.hi))
        → last_without y h ≤ℤ y.hi
    by (inl i) = omega (arith, ints, i.0, i.2)
    by (inr o) = omega (arith, ints, o.1)

first_monotone : (y y' h : spans.Span) → y.lo ≤ℤ y'.lo → first_without y h ≤ℤ first_without y' h
first_monotone y y' h p =
    elim (first_is y h) [
      | inl i ↦ elim (first_is y' h) [
        | inl j ↦ omega (arith, ints, i.2, j.2)
        | inr o ↦ elim (cases_le y'.lo h.hi) [
          | inl le ↦ absurd (o.0 (omega (arith, ints, i.0), le))
          | inr gt ↦ omega (arith, ints, i.2, o.1, gt)
        ]
      ]
      | inr o ↦ omega (arith, ints, o.1, first_later y' h)
    ]

last_monotone : (y y' h : spans.Span) → y'.hi ≤ℤ y.hi → last_without y' h ≤ℤ last_without y h
last_monotone y y' h p =
    elim (last_is y h) [
      | inl i ↦ elim (last_is y' h) [
        | inl j ↦ omega (arith, ints, i.2, j.2)
        | inr o ↦ elim (cases_le h.lo y'.hi) [
          | inl le ↦ absurd (o.0 (le, omega (arith, ints, i.1)))
          | inr gt ↦ omega (arith, ints, i.2, o.1, gt)
        ]
      ]
      | inr o ↦ omega (arith, ints, o.1, last_earlier y' h)
    ]

-- a number of y outside of the span is none before the first
first_holds : (y h : spans.Span) (v : ℤ) → y.lo ≤ℤ v → ¬ (Holds (Span h) (Number v))
    → first_without y h ≤ℤ v
first_holds y h v p n = elim (first_is y h) [
  | inl i ↦ elim (cases_le v h.hi) [
    | inl le ↦ absurd (n (omega (arith, ints, i.0), le))
    | inr gt ↦ omega (arith, ints, i.2, gt)
  ]
  | inr o ↦ omega (arith, ints, o.1)
]

last_holds : (y h : spans.Span) (v : ℤ) → v ≤ℤ y.hi → ¬ (Holds (Span h) (Number v))
    → v ≤ℤ last_without y h
last_holds y h v p n = elim (last_is y h) [
  | inl i ↦ elim (cases_le h.lo v) [
    | inl le ↦ absurd (n (le, omega (arith, ints, i.1)))
    | inr gt ↦ omega (arith, ints, i.2, gt)
  ]
  | inr o ↦ omega (arith, ints, o.1)
]

-- ---- elements without those of a set

abbrev pub others : ℕ → ℕ → ℕ
others y h = bit_and y (bit_not w64 h)

pub others_part : (y h : ℕ) → HasBitsOf y (others y h)
others_part = λ y h. part_left y (bit_not w64 h)

pub others_has : (y h : sets.Elements) (i : ℕ) → bit_at y.bits i ≡ 1 → ¬ (bit_at h.bits i ≡ 1)
    → bit_at (others y.bits h.bits) i ≡ 1
others_has y h i p n = by (cases_lt i 64)
  where
    by : (i < 64) ⊎ (64 ≤ i) → bit_at (others y.bits h.bits) i ≡ 1
    by (inl low) = grind (
      arith,
      bit_at_and y.bits (bit_not w64 h.bits) i,
      bit_at_not w64 h.bits i h.fits low,
      bit_at-lt h.bits i,
    )
    by (inr high) = absurd (omega (arith, p, bit_at_above y.bits 64 i y.fits high))

pub others_lacks : (y h : sets.Elements) (i : ℕ) → bit_at (others y.bits h.bits) i ≡ 1
    → ¬ (bit_at h.bits i ≡ 1)
others_lacks y h i p q = by (cases_lt i 64)
  where
    by : (i < 64) ⊎ (64 ≤ i) → ⊥
    by (inl low) = omega (
      arith,
      p,
      q,
      bit_at_and y.bits (bit_not w64 h.bits) i,
      bit_at_not w64 h.bits i h.fits low,
    )
    by (inr high) = omega (arith, q, bit_at_above h.bits 64 i h.fits high)

pub others_fit : (y h : sets.Elements) → others y.bits h.bits < 2 ^ 64
others_fit y h = omega (arith, y.fits, and_le_l y.bits (bit_not w64 h.bits))

others_monotone : (y y' h : sets.Elements) → HasBitsOf y.bits y'.bits
    → HasBitsOf (others y.bits h.bits) (others y'.bits h.bits)
others_monotone y y' h p i k =
    others_has y h i (p i (others_part y'.bits h.bits i k)) (others_lacks y' h i k)

-- ---- an information without the points of another

-- it says no less
pub without_more : (y h : Info) → Below y (without_of y h)
without_more (Span y) (Span h) =
    above_span _ _ y (first_later y h) (last_earlier y h)
without_more (Set y) (Set h) = above_set _ y (others_part y.bits h.bits)
without_more (Sym y) (Sym h) = by (y == h)
  where
    by : (t : Bool) → Below (Sym y) (if t then Contradiction else Sym y)
    by true = tt
    by false = refl
without_more y h = info_laws.reflexive y

without_monotone : (y y' h : Info) → Below y y' → Below (without_of y h) (without_of y' h)
without_monotone Nothing y' h p = tt
without_monotone (Span y) (Span y') (Span h) p =
    span_from_below _ _ _ _ (first_monotone y y' h p.0) (last_monotone y y' h p.1)
    (omega (arith, ints, first_later y h, y.above)) (omega (arith, ints, last_earlier y h, y.below))
without_monotone (Set y) (Set y') (Set h) p =
    elements_below _ _ (others_fit y h) (others_monotone y y' h p)
without_monotone (Sym y) (Sym y') h p =
    subst (λ z. Below (without_of (Sym y) h) (without_of (Sym z) h)) p
    (info_laws.reflexive (without_of (Sym y) h))
without_monotone y Contradiction h p = to_top (without_of y h)
without_monotone y y' h p = search rules

-- it holds each point that the other doesn't
without_holds : (y h : Info) (p : Point) → Holds y p → ¬ (Holds h p) → Holds (without_of y h) p
without_holds (Span y) (Span h) (Number v) k n =
    span_from_holds _ _ v (first_holds y h v k.0 n) (last_holds y h v k.1 n)
    (omega (arith, ints, first_later y h, y.above)) (omega (arith, ints, last_earlier y h, y.below))
without_holds (Set y) (Set h) (Element i) k n =
    elements_hold _ (others_fit y h) i (others_has y h i k n)
without_holds (Sym y) (Sym h) (Symbol c) k n = by (y == h) refl
  where
    by : (t : Bool) → (y == h) ≡ t → Holds (if t then Contradiction else Sym y) (Symbol c)
    by true e = absurd (n (sym (eqb-true y h e) ∙ k))
    by false e = k
without_holds y h p k n = search rules

without_kind : (kind : Kind) (size : ℕ) (y h : Info) → IsOf kind size y
    → IsOf kind size (without_of y h)
without_kind kinds.Span size (Span y) (Span h) k = span_from_of_span size _ _
without_kind (kinds.Set domain) size (Set y) (Set h) k =
    elements_of_kind domain size _ (λ i e. k i (others_part y.bits h.bits i e))
without_kind kinds.Symbol size (Sym y) (Sym h) k = by (y == h)
  where
    by : (t : Bool) → IsOf kinds.Symbol size (if t then Contradiction else Sym y)
    by true = tt
    by false = tt
without_kind kind size y h k = search rules

-- ---- what so many points tell

pub told_over : (n : ℕ) (h y : Info) → points_in h < n → told n h y ≡ Contradiction
told_over n h y l =
    let e : nat_lt (points_in h) n ≡ true = grind (arith, nat_tests) in rw e refl

pub told_tight : (n : ℕ) (h y : Info) → points_in h ≡ n → told n h y ≡ without_of y h
told_tight n h y l =
    let e : nat_lt (points_in h) n ≡ false = grind (arith, nat_tests) in
    let f : (points_in h == n) ≡ true = eq-eqb (points_in h) n l in rw (e, f) refl

pub told_loose : (n : ℕ) (h y : Info) → n < points_in h → told n h y ≡ y
told_loose n h y l =
    let e : nat_lt (points_in h) n ≡ false = grind (arith, nat_tests) in
    let f : (points_in h == n) ≡ false = grind (arith, nat_tests) in rw (e, f) refl

pub data Room (points n : ℕ) : Type 0 where
  Over : points < n → Room points n
  Tight : points ≡ n → Room points n
  Loose : n < points → Room points n

pub room : (points n : ℕ) → Room points n
room points n = elim (cases_lt points n) [
  | inl l ↦ Over l
  | inr g ↦ elim (cases_eq points n) [ inl e ↦ Tight e | inr d ↦ Loose (omega (arith, g, d)) ]
]

pub told_monotone : (n : ℕ) (h h' y y' : Info) → Below h h' → Below y y'
    → Below (told n h y) (told n h' y')
told_monotone n h h' y y' p q = by (room (points_in h') n) (room (points_in h) n)
  where
    fewer : points_in h' ≤ points_in h
    fewer = (fewer_points h h' p).0

    by : Room (points_in h') n → Room (points_in h) n → Below (told n h y) (told n h' y')
    by (Over l) r = subst (Below (told n h y)) (sym (told_over n h' y' l)) (to_top (told n h y))
    by (Tight e) (Over k) = absurd (omega (arith, fewer, e, k))
    by (Tight e) (Tight f) =
        let same : h ≡ h' = (fewer_points h h' p).1 (omega (arith, e, f)) in
        subst (Below (told n h y)) (sym (told_tight n h' y' e))
        (subst (λ a. Below a (without_of y' h')) (sym (told_tight n h y f))
        (subst (λ a. Below (without_of y h) (without_of y' a)) same (without_monotone y y' h q)))
    by (Tight e) (Loose k) =
        subst (Below (told n h y)) (sym (told_tight n h' y' e))
        (subst (λ a. Below a (without_of y' h')) (sym (told_loose n h y k))
        (info_laws.transitive y y' (without_of y' h') q (without_more y' h')))
    by (Loose l) (Over k) = absurd (omega (arith, fewer, l, k))
    by (Loose l) (Tight f) = absurd (omega (arith, fewer, l, f))
    by (Loose l) (Loose k) =
        subst (Below (told n h y)) (sym (told_loose n h' y' l))
        (subst (λ a. Below a y') (sym (told_loose n h y k)) q)

told_kind : (kind : Kind) (size n : ℕ) (h y : Info) → IsOf kind size y
    → IsOf kind size (told n h y)
told_kind kind size n h y k = by (room (points_in h) n)
  where
    none : (kind : Kind) → IsOf kind size Contradiction
    none kinds.Span = tt
    none (kinds.Set domain) = tt
    none kinds.Symbol = tt

    by : Room (points_in h) n → IsOf kind size (told n h y)
    by (Over l) = subst (IsOf kind size) (sym (told_over n h y l)) (none kind)
    by (Tight e) = subst (IsOf kind size) (sym (told_tight n h y e)) (without_kind kind size y h k)
    by (Loose l) = subst (IsOf kind size) (sym (told_loose n h y l)) k

-- where there are so many different points of the hull, another point of y is left
told_holds : (h y : Info) (q : Point) (ps : List Point) → length ps < 64 → Holds y q
    → Each (Holds h) ps → AreDifferent (q ∷ ps) → Holds (told (length ps) h y) q
told_holds h y q ps few k each d = by (room (points_in h) (length ps))
  where
    by : Room (points_in h) (length ps) → Holds (told (length ps) h y) q
    by (Over l) = absurd (omega (arith, l, no_more_points h ps (omega arith) each d.1))
    by (Tight e) =
        subst (λ a. Holds a q) (sym (told_tight (length ps) h y e))
        (without_holds y h q k
        (λ i. omega (arith, e, no_more_points h (q ∷ ps) (omega arith) (i, each) d)))
    by (Loose l) = subst (λ a. Holds a q) (sym (told_loose (length ps) h y l)) k

-- ---- what all selections tell

pub hold_all : (infos : List Info) (ps : List Point) → EachHolds infos ps
    → (length infos ≡ length ps) × Each (Holds (hull_of infos)) ps
hold_all [] [] h = (refl, tt)
hold_all (a ∷ infos) (p ∷ ps) h =
    let rest = hold_all infos ps h.1 in (
      ap suc rest.0,
      (
        below_holds (hull_of (a ∷ infos)) a p (hull_first a (hull_of infos)) h.0,
        each_weaker (Holds (hull_of infos)) (Holds (hull_of (a ∷ infos)))
            (λ q. below_holds (hull_of (a ∷ infos)) (hull_of infos) q
            (hull_second a (hull_of infos)))
            ps rest.1,
      ),
    )
hold_all infos ps h = search rules

pub same_length : (olds news : List Info) → EachBelow olds news → length olds ≡ length news
same_length [] [] p = refl
same_length (a ∷ olds) (b ∷ news) p = ap suc (same_length olds news p.1)
same_length olds news p = search rules

pub excluded_monotone : (y y' : Info) (olds news : List Info) → Below y y' → EachBelow olds news
    → Below (excluded_of y olds) (excluded_of y' news)
excluded_monotone y y' olds news p q =
    all_below y y' (map (told_by y) (selections olds)) (map (told_by y') (selections news)) p
    (zip_map EachBelow Below (told_by y) (told_by y') more (selections olds) (selections news)
    (selections_below olds news q))
  where
    more : (s t : List Info) → EachBelow s t → Below (told_by y s) (told_by y' t)
    more s t h =
        subst (λ n. Below (told_by y s) (told n (hull_of t) y')) (same_length s t h)
        (told_monotone (length s) (hull_of s) (hull_of t) y y' (hull_below s t h) p)

pub excluded_kind : (kind : Kind) (size : ℕ) (y : Info) (others : List Info) → IsOf kind size y
    → IsOf kind size (excluded_of y others)
excluded_kind kind size y others k =
    all_of_kind kind size y (map (told_by y) (selections others)) k
    (each_map (IsOf kind size) (told_by y) (selections others) (each (selections others)))
  where
    each : (ss : List (List Info)) → Each (λ s. IsOf kind size (told_by y s)) ss
    each [] = tt
    each (s ∷ ss) = (told_kind kind size (length s) (hull_of s) y k, each ss)

-- the points are few
told_each : (y : Info) (q : Point) (ss : List (List Info)) (ts : List (List Point)) → Holds y q
    → AllZip EachHolds ss ts → Each (λ t. (length t < 64) × AreDifferent (q ∷ t)) ts
    → Each (λ s. Holds (told_by y s) q) ss
told_each y q [] ts k h d = tt
told_each y q (s ∷ ss) (t ∷ ts) k h d =
    let all = hold_all s t h.0 in (
      subst (λ n. Holds (told n (hull_of s) y) q) (sym all.0)
          (told_holds (hull_of s) y q t d.0.0 k all.1 d.0.1),
      told_each y q ss ts k h.1 d.1,
    )
told_each y q (s ∷ ss) [] k h d = absurd h

pub few_selected : {X : Type 0} (xs : List X) → Each (λ s. length s ≤ length xs) (selections xs)
few_selected [] = (omega arith, tt)
few_selected (x ∷ xs) =
    let rest = few_selected xs in
    each_append (λ s. length s ≤ length (x ∷ xs)) (selections xs)
    (map (λ s. x ∷ s) (selections xs))
    (each_weaker (λ s. length s ≤ length xs) (λ s. length s ≤ length (x ∷ xs))
    (λ s l. omega (arith, l)) (selections xs) rest)
    (each_map (λ s. length s ≤ length (x ∷ xs)) (λ s. x ∷ s) (selections xs)
    (each_weaker (λ s. length s ≤ length xs) (λ s. length (x ∷ s) ≤ length (x ∷ xs))
    (λ s l. omega (arith, l)) (selections xs) rest))

pub excluded_holds : (y : Info) (others : List Info) (q : Point) (ps : List Point) → length ps < 64
    → Holds y q → EachHolds others ps → AreDifferent (q ∷ ps) → Holds (excluded_of y others) q
excluded_holds y others q ps few k h d =
    all_hold y (map (told_by y) (selections others)) q k
    (each_map (λ a. Holds a q) (told_by y) (selections others)
    (told_each y q (selections others) (selections ps) k (selections_hold others ps h)
    (each_both (λ t. length t < 64) (λ t. AreDifferent (q ∷ t)) (selections ps)
    (each_weaker (λ t. length t ≤ length ps) (λ t. length t < 64) (λ t l. omega (arith, l, few))
    (selections ps) (few_selected ps))
    (each_both (IsNoneOf q) AreDifferent (selections ps) (none_selected q ps d.0)
    (different_selected ps d.1)))))
