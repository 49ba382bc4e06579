-- Different points of an information are no more than it has.
use Rattle.std.specs.Prelude.{◌≡◌, ◌≢◌, ◌⊎◌, ℕ, ◌-◌, ◌<◌, ◌≤◌, ◌^◌, ℤ, ◌-ℤ◌, List, [], ◌∷◌, length}
use Rattle.std.specs.Prelude.{map}
use Rattle.std.specs.Prelude.{count_ones, unsigned_abs}
use Rattle.std.specs.Int.{bit_at}
use Rattle.std.specs.Int.Count.{ones-ones}
use Rattle.std.specs.List.{AllByRecursion as Each}
use Rattle.std.proofs.Common.{arith, rules, ap, sym, ◌∙◌, inl, inr}
use Rattle.std.proofs.lemmas.Bool.{cases_eq}
use Rattle.std.proofs.lemmas.Int.{ints}
use Rattle.std.proofs.lemmas.List.{length-map}
use Rattle.std.proofs.lemmas.Nat.{pow_pos, and_le_l}
use Rattle.std.proofs.lemmas.Nat.Bits.{bit_at-lt, bit_at_xor, bit_at_ones, bit_at-pow_same}
use Rattle.std.proofs.lemmas.Nat.Bits.{bit_at-pow_other}
use Rattle.std.specs.Int.RustNames.{bit_xor}
use Rattle.prop_lattice.proofs.PartLemmas.{ones_part, and_from_part}
use Rattle.prop_lattice.specs.Ends.{numbers_in}
use Rattle.prop_lattice.specs.Points.{Point, Number, Element, Symbol, Holds}
use Rattle.prop_lattice.specs.declared.info.Info.{Info}
use Rattle.prop_lattice.specs.declared.info.Info.TheVariants.{Nothing, Span, Set, Sym}
use Rattle.prop_lattice.specs.declared.info.Info.TheVariants.{Contradiction}
use Rattle.prop_lattice.specs.declared.span.Span as spans
use Rattle.prop_lattice.specs.declared.elements.Elements as sets
use Rattle.prop_lattice.specs.laws.Parts.{HasBitsOf}
use Rattle.prop_hall.specs.Hulls.{points_in}
use Rattle.prop_hall.specs.Points.{AreDifferent, IsNoneOf}
use Rattle.prop_hall.specs.laws.HullLaws.{numbers_are, size_of}
use Rattle.prop_hall.specs.laws.SelectionLaws.{each_map, each_weaker}

-- ---- numbers of bits

-- a word without its bit k
abbrev dropped : ℕ → ℕ → ℕ
dropped word k = bit_xor word (2 ^ k)

dropped_part : (word k : ℕ) → bit_at word k ≡ 1 → HasBitsOf word (dropped word k)
dropped_part word k h i g = by (cases_eq i k)
  where
    by : (i ≡ k) ⊎ (i ≢ k) → bit_at word i ≡ 1
    by (inl same) = ap (bit_at word) same ∙ h
    by (inr other) =
        omega (arith, g, bit_at_xor word (2 ^ k) i, bit_at-pow_other k i other, bit_at-lt word i)

dropped_has : (word k i : ℕ) → i ≢ k → bit_at word i ≡ 1 → bit_at (dropped word k) i ≡ 1
dropped_has word k i other h =
    omega (arith, h, bit_at_xor word (2 ^ k) i, bit_at-pow_other k i other)

dropped_lacks : (word k : ℕ) → bit_at word k ≡ 1 → bit_at (dropped word k) k ≡ 0
dropped_lacks word k h = omega (arith, h, bit_at_xor word (2 ^ k) k, bit_at-pow_same k)

dropped_fits : (size word k : ℕ) → word < 2 ^ size → bit_at word k ≡ 1 → dropped word k < 2 ^ size
dropped_fits size word k fits h =
    omega (
      arith,
      fits,
      and_le_l word (dropped word k),
      and_from_part word (dropped word k) (dropped_part word k h),
    )

-- a word has one bit less without one
dropped_ones : (size word k : ℕ) → word < 2 ^ size → bit_at word k ≡ 1
    → count_ones (dropped word k) < count_ones word
dropped_ones size word k fits h =
    let part = ones_part size word (dropped word k) fits (dropped_part word k h) in
    by (cases_eq (count_ones (dropped word k)) (count_ones word)) part.1 part.0
  where
    by : (count_ones (dropped word k) ≡ count_ones word)
        ⊎ (count_ones (dropped word k) ≢ count_ones word)
        → (count_ones (dropped word k) ≡ count_ones word → word ≡ dropped word k)
        → count_ones (dropped word k) ≤ count_ones word
        → count_ones (dropped word k) < count_ones word
    by (inl same) is le =
        absurd (omega (arith, h, ap (λ n. bit_at n k) (is same), dropped_lacks word k h))
    by (inr other) is le = omega (arith, le, other)

each_dropped : (word n : ℕ) (ns : List ℕ) → IsNoneOf n ns → Each (λ m. bit_at word m ≡ 1) ns
    → Each (λ m. bit_at (dropped word n) m ≡ 1) ns
each_dropped word n [] d h = tt
each_dropped word n (m ∷ ns) d h =
    (dropped_has word n m (λ e. d.0 (sym e)) h.0, each_dropped word n ns d.1 h.1)

-- different places of bits are no more than there are bits
pigeons : (size word : ℕ) → word < 2 ^ size → (ns : List ℕ) → Each (λ n. bit_at word n ≡ 1) ns
    → AreDifferent ns → length ns ≤ count_ones word
pigeons size word fits [] h d = omega arith
pigeons size word fits (n ∷ ns) h d =
    let rest = pigeons size (dropped word n) (dropped_fits size word n fits h.0) ns
    (each_dropped word n ns d.0 h.1) d.1 in
    omega (arith, rest, dropped_ones size word n fits h.0)

-- ---- points in places

placed_none : {X Y : Type 0} (place : X → Y) (Q : X → Type 0)
    → ((p q : X) → Q p → Q q → place p ≡ place q → p ≡ q) → (p : X) (ps : List X) → Q p → Each Q ps
    → IsNoneOf p ps → IsNoneOf (place p) (map place ps)
placed_none place Q same p [] h k d = tt
placed_none place Q same p (q ∷ ps) h k d =
    (λ e. d.0 (same p q h k.0 e), placed_none place Q same p ps h k.1 d.1)

pub placed_different : {X Y : Type 0} (place : X → Y) (Q : X → Type 0)
    → ((p q : X) → Q p → Q q → place p ≡ place q → p ≡ q) → (ps : List X) → Each Q ps
    → AreDifferent ps → AreDifferent (map place ps)
placed_different place Q same [] h d = tt
placed_different place Q same (p ∷ ps) h d =
    (placed_none place Q same p ps h.0 h.1 d.0, placed_different place Q same ps h.1 d.1)

-- points in places of their own, at each of which the word has a bit
in_places : (place : Point → ℕ) (Q : Point → Type 0) (size word : ℕ) → word < 2 ^ size
    → ((p q : Point) → Q p → Q q → place p ≡ place q → p ≡ q)
    → ((p : Point) → Q p → bit_at word (place p) ≡ 1) → (ps : List Point) → Each Q ps
    → AreDifferent ps → length ps ≤ count_ones word
in_places place Q size word fits same has ps h d =
    let few = pigeons size word fits (map place ps)
    (each_map (λ n. bit_at word n ≡ 1) place ps
    (each_weaker Q (λ p. bit_at word (place p) ≡ 1) has ps h))
    (placed_different place Q same ps h d) in
    omega (arith, few, length-map ps place)

abbrev number_place : ℤ → Point → ℕ
number_place lo (Number v) = unsigned_abs (v -ℤ lo)
number_place lo p = 0

abbrev element_place : Point → ℕ
element_place (Element i) = i
element_place p = 0

same_number : (s : spans.Span) (p q : Point) → Holds (Span s) p → Holds (Span s) q
    → number_place s.lo p ≡ number_place s.lo q → p ≡ q
same_number s (Number u) (Number v) h k e =
    ap Number (omega (
      arith,
      ints,
      size_of (u -ℤ s.lo) (omega (arith, ints)),
      size_of (v -ℤ s.lo) (omega (arith, ints)),
    ))
same_number s p q h k e = search rules

number_lies : (s : spans.Span) (p : Point) → Holds (Span s) p
    → bit_at (2 ^ numbers_in s - 1) (number_place s.lo p) ≡ 1
number_lies s (Number v) h =
    bit_at_ones (numbers_in s) (unsigned_abs (v -ℤ s.lo))
    (omega (arith, ints, numbers_are s, size_of (v -ℤ s.lo) (omega (arith, ints))))
number_lies s p h = search rules

same_element : (s : sets.Elements) (p q : Point) → Holds (Set s) p → Holds (Set s) q
    → element_place p ≡ element_place q → p ≡ q
same_element s (Element i) (Element j) h k e = ap Element e
same_element s p q h k e = search rules

element_lies : (s : sets.Elements) (p : Point) → Holds (Set s) p
    → bit_at s.bits (element_place p) ≡ 1
element_lies s (Element i) h = h
element_lies s p h = search rules

same_symbol : (a : ℕ) (p q : Point) → Holds (Sym a) p → Holds (Sym a) q → p ≡ q
same_symbol a (Symbol b) (Symbol c) h k = ap Symbol (sym h ∙ k)
same_symbol a p q h k = search rules

one_symbol : (a : ℕ) (ps : List Point) → Each (Holds (Sym a)) ps → AreDifferent ps → length ps ≤ 1
one_symbol a [] h d = omega arith
one_symbol a (p ∷ []) h d = omega arith
one_symbol a (p ∷ q ∷ ps) h d = absurd (d.0.0 (same_symbol a p q h.0 h.1.0))

none_left : (ps : List Point) → Each (Holds Contradiction) ps → length ps ≤ 0
none_left [] h = omega arith
none_left (p ∷ ps) h = absurd h.0

-- different points of an information are no more than it has, of nothing where they are few
pub no_more_points : (a : Info) (ps : List Point) → length ps ≤ 64 → Each (Holds a) ps
    → AreDifferent ps → length ps ≤ points_in a
no_more_points Nothing ps few h d = omega arith
no_more_points (Span s) ps few h d =
    let word = 2 ^ numbers_in s - 1 in
    let fits : word < 2 ^ numbers_in s = omega (arith, pow_pos (numbers_in s)) in
    omega (
      arith,
      ones-ones (numbers_in s),
      in_places (number_place s.lo) (Holds (Span s))
          (numbers_in s) word fits (same_number s) (number_lies s) ps h d,
    )
no_more_points (Set s) ps few h d =
    in_places element_place (Holds (Set s)) 64 s.bits s.fits (same_element s)
    (element_lies s) ps h d
no_more_points (Sym a) ps few h d = one_symbol a ps h d
no_more_points Contradiction ps few h d = none_left ps h
