-- What selections leave of a set, by Hall's theorem.
use Rattle.std.proofs.Common.{◌≡◌, ◌⊎◌, ℕ, suc, ◌+◌, ◌^◌, ◌<◌, ◌≤◌, Bool, true, false, cond, List, [], ◌∷◌, map, length}
use Rattle.std.proofs.Common.{bit_or, arith, rules, ap, sym, subst, refl, ◌∙◌, inl, inr}
use Rattle.std.specs.Prelude.{count_ones, ⊤}
use Rattle.std.proofs.lemmas.List.{length-map}
use Rattle.std.specs.Int.{bit_at, w64, trailing_zeros}
use Rattle.std.specs.List.{AllByRecursion as Each, AllZip}
use Rattle.std.proofs.Math.Pow.{pow-lt}
use Rattle.std.proofs.lemmas.Bool.{cases_lt}
use Rattle.std.proofs.lemmas.Nat.{or_lt, or_comm, ones_le_self}
use Rattle.std.proofs.lemmas.Nat.Bits.{bit_at-zero, bit_at_above, bit_at-pow_same, bit_at-trailing_zeros}
use Rattle.prop_lattice.specs.Ends.{some_or_not, elements_from}
use Rattle.prop_lattice.specs.inner.Ends.{AreSome, elements_if}
use Rattle.prop_lattice.specs.Order.{Below, HasElement}
use Rattle.prop_lattice.specs.Points.{Point, Element, Holds}
use Rattle.prop_lattice.specs.declared.elements.Elements as sets
use Rattle.prop_lattice.specs.declared.info.Info.{Info}
use Rattle.prop_lattice.specs.declared.info.Info.TheVariants.{Nothing, Span, Set, Sym, Contradiction}
use Rattle.prop_lattice.specs.laws.OrderLaws.{to_top}
use Rattle.prop_lattice.specs.laws.Parts.{HasBitsOf}
use Rattle.prop_lattice.proofs.EndLemmas.{elements_are, elements_from-none}
use Rattle.prop_lattice.proofs.PartLemmas.{ones_part}
use Rattle.prop_procedures.specs.Rules.{EachHolds}
use Rattle.prop_sets.specs.laws.NarrowestLaws.{bit_from_held}
use Rattle.prop_hall.specs.Excluding.{told, told_by, excluded_of}
use Rattle.prop_hall.specs.Hulls.{hull_of, hull_of_two, points_in, without_of}
use Rattle.prop_hall.specs.Narrowest.{IsLeft, ExcludedIsNarrowest}
use Rattle.prop_hall.specs.Points.{IsNoneOf}
use Rattle.prop_hall.specs.Selections.{selections}
use Rattle.prop_hall.specs.laws.ExcludingLaws.{excluded_holds, others, others_lacks, told_over, told_tight}
use Rattle.prop_hall.specs.laws.ExcludingLaws.{Room, Over, Tight, Loose, room}
use Rattle.prop_hall.specs.laws.HullLaws.{below_holds}
use Rattle.prop_hall.specs.laws.MergeLaws.{all_above_first, all_above_each}
use Rattle.prop_hall.specs.laws.PigeonLaws.{placed_different}
use Rattle.prop_hall.specs.laws.SelectionLaws.{each_split, each_unmap, each_weaker}
use Rattle.prop_hall.proofs.CountLemmas.{in_right, ones_more, ones_one}
use Rattle.prop_hall.proofs.HallLemmas.{IsRoomy, hall, members_of, union_of, union_fits, or_zero}

-- ---- selections by a test of places

abbrev picked : {X : Type 0} → List X → (ℕ → Bool) → List X
picked [] test = []
picked (x ∷ xs) test = cond (test 0) (x ∷ picked xs (λ i. test (suc i))) (picked xs (λ i. test (suc i)))

picked_each : {X : Type 0} (P : List X → Type 0) (xs : List X) → Each P (selections xs) → (f : ℕ → Bool)
    → P (picked xs f)
picked_each P [] h f = h.0
picked_each P (x ∷ xs) h f =
    let parts = each_split P (selections xs) (map (λ s. x ∷ s) (selections xs)) h in
    by (f 0) (picked_each P xs parts.0 (λ i. f (suc i)))
    (picked_each (λ s. P (x ∷ s)) xs (each_unmap P (λ s. x ∷ s) (selections xs) parts.1) (λ i. f (suc i)))
  where
    by : (s : Bool) → P (picked xs (λ i. f (suc i))) → P (x ∷ picked xs (λ i. f (suc i)))
        → P (cond s (x ∷ picked xs (λ i. f (suc i))) (picked xs (λ i. f (suc i))))
    by true p q = q
    by false p q = p

abbrev words_of : List sets.Elements → List ℕ
words_of ss = map (λ s. s.bits) ss

words_fit : (ss : List sets.Elements) → Each (λ w. w < 2 ^ 64) (words_of ss)
words_fit [] = tt
words_fit (s ∷ ss) = (s.fits, words_fit ss)

picked_members : (ss : List sets.Elements) (f : ℕ → Bool)
    → length (picked (map Set ss) f) ≡ members_of (words_of ss) f
picked_members [] f = refl
picked_members (s ∷ ss) f = by (f 0) (picked_members ss (λ i. f (suc i)))
  where
    by : (t : Bool) → length (picked (map Set ss) (λ i. f (suc i))) ≡ members_of (words_of ss) (λ i. f (suc i))
        → length (cond t (Set s ∷ picked (map Set ss) (λ i. f (suc i))) (picked (map Set ss) (λ i. f (suc i))))
        ≡ cond t 1 0 + members_of (words_of ss) (λ i. f (suc i))
    by true ih = omega (arith, ih)
    by false ih = omega (arith, ih)

hull_with : (s : sets.Elements) (bits : ℕ) → bits < 2 ^ 64
    → hull_of_two (Set s) (elements_from bits) ≡ elements_from (bit_or s.bits bits)
unfolding elements_from
hull_with s bits fits = by (some_or_not bits)
  where
    by : (d : AreSome bits ⊎ ¬ (AreSome bits))
        → hull_of_two (Set s) (elements_if bits d) ≡ elements_from (bit_or s.bits bits)
    by (inl e) = refl
    by (inr none) = elim (cases_lt 0 bits) [
      | inl some ↦ absurd (none (some, fits))
      | inr le ↦ (
          let zeroth : bits ≡ 0 = omega (arith, le) in
          elements_are (bit_or s.bits bits) s (sym (or_zero s.bits) ∙ ap (bit_or s.bits) (sym zeroth))
          )
    ]

picked_hull : (ss : List sets.Elements) (f : ℕ → Bool)
    → hull_of (picked (map Set ss) f) ≡ elements_from (union_of (words_of ss) f)
picked_hull [] f = sym (elements_from-none 0 (λ some. omega (arith, some.0)))
picked_hull (s ∷ ss) f = by (f 0) (picked_hull ss (λ i. f (suc i)))
  where
    by : (t : Bool)
        → hull_of (picked (map Set ss) (λ i. f (suc i))) ≡ elements_from (union_of (words_of ss) (λ i. f (suc i)))
        → hull_of (cond t (Set s ∷ picked (map Set ss) (λ i. f (suc i))) (picked (map Set ss) (λ i. f (suc i))))
        ≡ elements_from (cond t (bit_or s.bits (union_of (words_of ss) (λ i. f (suc i))))
        (union_of (words_of ss) (λ i. f (suc i))))
    by true ih = ap (hull_of_two (Set s)) ih
        ∙ hull_with s (union_of (words_of ss) (λ i. f (suc i)))
        (union_fits 64 (words_of ss) (λ i. f (suc i)) (words_fit ss))
    by false ih = ih

points_are : (bits : ℕ) → bits < 2 ^ 64 → points_in (elements_from bits) ≡ count_ones bits
unfolding elements_from
points_are bits fits = by (some_or_not bits)
  where
    by : (d : AreSome bits ⊎ ¬ (AreSome bits)) → points_in (elements_if bits d) ≡ count_ones bits
    by (inl e) = refl
    by (inr none) = elim (cases_lt 0 bits) [
      | inl some ↦ absurd (none (some, fits))
      | inr zeroth ↦ (let is : bits ≡ 0 = omega (arith, zeroth) in omega (arith, ap count_ones is, ones_le_self 0))
    ]

-- ---- what a selection leaves

without_lacks : (y : sets.Elements) (bits j : ℕ) → Holds (without_of (Set y) (elements_from bits)) (Element j)
    → bits < 2 ^ 64 → ¬ (bit_at bits j ≡ 1)
unfolding elements_from
without_lacks y bits j h fits k = by (some_or_not bits) h
  where
    by : (d : AreSome bits ⊎ ¬ (AreSome bits)) → Holds (without_of (Set y) (elements_if bits d)) (Element j) → ⊥
    by (inl e) h =
        others_lacks y (record { bits = bits; some = e.0; fits = e.1 }) j (bit_from_held (others y.bits bits) j h) k
    by (inr none) h = elim (cases_lt 0 bits) [
      | inl some ↦ none (some, fits)
      | inr le ↦ (
          let zeroth : bits ≡ 0 = omega (arith, le) in
          omega (arith, k, ap (λ n. bit_at n j) zeroth, bit_at-zero j))
    ]

-- an element that is left is beside a word of its own bit roomy
roomy_from : (y : sets.Elements) (j n bits : ℕ) → j < 64 → bits < 2 ^ 64
    → Holds (told n (elements_from bits) (Set y)) (Element j)
    → 1 + n ≤ count_ones (bit_or (2 ^ j) bits)
roomy_from y j n bits low fits h = by (room (points_in (elements_from bits)) n)
  where
    power : 2 ^ j < 2 ^ 64
    power = pow-lt low

    within : HasBitsOf (bit_or (2 ^ j) bits) bits
    within i k = in_right (2 ^ j) bits i k

    more : count_ones bits ≤ count_ones (bit_or (2 ^ j) bits)
    more = (ones_part 64 (bit_or (2 ^ j) bits) bits (or_lt 64 (2 ^ j) bits power fits) within).0

    by : Room (points_in (elements_from bits)) n → 1 + n ≤ count_ones (bit_or (2 ^ j) bits)
    by (Over l) = absurd (subst (λ a. Holds a (Element j)) (told_over n (elements_from bits) (Set y) l) h)
    by (Tight e) =
        let lacks = without_lacks y bits j
        (subst (λ a. Holds a (Element j)) (told_tight n (elements_from bits) (Set y) e) h) fits in
        omega (
          arith,
          e,
          points_are bits fits,
          ones_more 64 bits j fits power lacks,
          ap count_ones (or_comm (2 ^ j) bits),
        )
    by (Loose l) = omega (arith, l, points_are bits fits, more)

told_picked : (y : sets.Elements) (ss : List sets.Elements) (j : ℕ)
    → Holds (excluded_of (Set y) (map Set ss)) (Element j) → (f : ℕ → Bool)
    → Holds (told (members_of (words_of ss) f) (elements_from (union_of (words_of ss) f)) (Set y)) (Element j)
told_picked y ss j h f =
    let all = excluded_of (Set y) (map Set ss) in
    let infos = map (told_by (Set y)) (selections (map Set ss)) in
    subst (λ a. Holds a (Element j))
    (λ i. told (picked_members ss f i) (picked_hull ss f i) (Set y))
    (picked_each (λ s. Holds (told_by (Set y) s) (Element j)) (map Set ss)
    (each_unmap (λ a. Holds a (Element j)) (told_by (Set y)) (selections (map Set ss))
    (each_weaker (λ a. Below a all) (λ a. Holds a (Element j)) (λ a b. below_holds a all (Element j) b h) infos
    (all_above_each (Set y) infos))) f)

element_low : (s : sets.Elements) (j : ℕ) → HasElement s j → j < 64
element_low s j h = elim (cases_lt j 64) [
  | inl l ↦ l
  | inr high ↦ absurd (omega (arith, h, bit_at_above s.bits 64 j s.fits high))
]

sides_of : (ss : List sets.Elements) (points : List ℕ) → AllZip (λ w i. bit_at w i ≡ 1) (words_of ss) points
    → AllZip HasElement ss points
sides_of [] [] h = tt
sides_of (s ∷ ss) (p ∷ points) h = (h.0, sides_of ss points h.1)
sides_of ss points h = search rules

not_among : (j : ℕ) (points : List ℕ) → Each (λ i. ¬ (bit_at (2 ^ j) i ≡ 1)) points → IsNoneOf j points
not_among j [] h = tt
not_among j (i ∷ points) h =
    (λ same. h.0 (ap (bit_at (2 ^ j)) (sym same) ∙ bit_at-pow_same j), not_among j points h.1)

left_by_hall : (y : sets.Elements) (ss : List sets.Elements) (j : ℕ)
    → Holds (excluded_of (Set y) (map Set ss)) (Element j) → IsLeft y ss j
left_by_hall y ss j h =
    let in_y : HasElement y j = below_holds (Set y) (excluded_of (Set y) (map Set ss)) (Element j)
    (all_above_first (Set y) (map (told_by (Set y)) (selections (map Set ss)))) h in
    let low = element_low y j in_y in
    let choice = hall 64 (words_of ss) (2 ^ j) (pow-lt low) (words_fit ss) (roomy low) in
    (in_y, choice.0, sides_of ss choice.0 choice.1.each, (not_among j choice.0 choice.1.free, choice.1.different))
  where
    roomy : j < 64 → IsRoomy (2 ^ j) (words_of ss)
    roomy low f = omega (
      arith,
      ones_one j,
      roomy_from y j (members_of (words_of ss) f) (union_of (words_of ss) f) low
          (union_fits 64 (words_of ss) f (words_fit ss))
          (told_picked y ss j h f),
    )

-- ---- the narrowest

held_of : (ss : List sets.Elements) (points : List ℕ) → AllZip HasElement ss points
    → EachHolds (map Set ss) (map Element points) × (length ss ≡ length points)
held_of [] [] h = (tt, refl)
held_of (s ∷ ss) (p ∷ points) h = let rest = held_of ss points h.1 in ((h.0, rest.0), ap suc rest.1)
held_of ss points h = search rules

element_of : Point → ℕ
element_of (Element i) = i
element_of p = 0

same_element : (i j : ℕ) → Element i ≡ Element j → i ≡ j
unfolding element_of
same_element i j e = ap element_of e

each_number : (ps : List ℕ) → Each (λ i. ⊤) ps
each_number [] = tt
each_number (p ∷ ps) = (tt, each_number ps)

left_held : (y : sets.Elements) (ss : List sets.Elements) (j : ℕ) → length ss < 9 → IsLeft y ss j
    → Holds (excluded_of (Set y) (map Set ss)) (Element j)
left_held y ss j few l =
    let points = l.1 in
    let held = held_of ss points l.2 in
    excluded_holds (Set y) (map Set ss) (Element j) (map Element points)
    (omega (arith, few, held.1, length-map points Element)) l.0 held.0
    (placed_different Element (λ i. ⊤) (λ p q a b. same_element p q) (j ∷ points) (each_number (j ∷ points)) l.3)

set_below : (s : Info) (m : sets.Elements) → ((i : ℕ) → HasElement m i → Holds s (Element i)) → Below s (Set m)
set_below s m h = by s h
  where
    first : (trailing_zeros w64 m.bits < 64) × (bit_at m.bits (trailing_zeros w64 m.bits) ≡ 1)
    first = let it = bit_at-trailing_zeros w64 m.bits m.some m.fits in (it.0, it.1)

    by : (s : Info) → ((i : ℕ) → HasElement m i → Holds s (Element i)) → Below s (Set m)
    by Nothing h = tt
    by (Set a) h = h
    by (Span a) h = absurd (h (trailing_zeros w64 m.bits) first.1)
    by (Sym a) h = absurd (h (trailing_zeros w64 m.bits) first.1)
    by Contradiction h = absurd (h (trailing_zeros w64 m.bits) first.1)

highest_of : (y : sets.Elements) (s m : Info) → Below (Set y) m → ((i : ℕ) → Holds m (Element i) → Holds s (Element i))
    → Below s m
highest_of y s Contradiction b h = to_top s
highest_of y s (Set m) b h = set_below s m h
highest_of y s m b h = absurd b

pub excluded_is_narrowest : ExcludedIsNarrowest
excluded_is_narrowest y ss few = record {
  holds = λ j l. left_held y ss j few l;
  highest = λ s h. highest_of y s (excluded_of (Set y) (map Set ss))
      (all_above_first (Set y) (map (told_by (Set y)) (selections (map Set ss))))
      (λ i held. h i (left_by_hall y ss i held));
}
