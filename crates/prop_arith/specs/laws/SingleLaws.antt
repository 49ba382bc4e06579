-- What is known of informations that leave one point alone.
use Rattle.std.specs.Prelude.{◌≡◌, ◌≢◌, ◌⊎◌, ℕ, ◌<◌, ◌^◌, true, false, ◌==◌, count_ones}
use Rattle.std.specs.Int.{bit_at, w64, trailing_zeros}
use Rattle.std.proofs.Common.{arith, refl, rules, ap, sym, subst, ◌∙◌, inl, inr, eqb-true}
use Rattle.std.proofs.lemmas.Bool.{cases_eq}
use Rattle.std.proofs.lemmas.Bool.Decides.{Decides-int_eq}
use Rattle.std.proofs.lemmas.Int.{ints}
use Rattle.std.proofs.lemmas.Nat.{zero_from_ones}
use Rattle.std.proofs.lemmas.Nat.Bits.{bit_at-zero, bit_at-trailing_zeros, bit_at-pow_same}
use Rattle.std.proofs.lemmas.Nat.Bits.{bit_at-pow_other}
use Rattle.prop_intervals.specs.Comparisons.{yes_bits, no_bits}
use Rattle.prop_lattice.proofs.PartLemmas.{ones_part}
use Rattle.prop_lattice.specs.Order.{Below, HasElement}
use Rattle.prop_lattice.specs.laws.OrderLaws.{same_span, same_elements}
use Rattle.prop_lattice.specs.laws.Parts.{HasBitsOf}
use Rattle.prop_lattice.specs.Points.{Point, Number, Element, Symbol, Holds}
use Rattle.prop_lattice.specs.declared.elements.Elements as sets
use Rattle.prop_lattice.specs.declared.info.Info.{Info}
use Rattle.prop_lattice.specs.declared.info.Info.TheVariants.{Nothing, Span, Set, Sym}
use Rattle.prop_lattice.specs.declared.info.Info.TheVariants.{Contradiction}
use Rattle.prop_arith.specs.Comparing.{is_single}
use Rattle.prop_arith.specs.inner.Compared.{is_just}
use Rattle.prop_arith.specs.inner.Compared.{first_element}

pub never : false ≡ true → ⊥
never e = cc

-- ---- one bit

-- some of a single bit are all of it
single_bits : (a c : ℕ) → a < 2 ^ 64 → count_ones a ≡ 1 → c ≢ 0 → HasBitsOf a c → a ≡ c
single_bits a c fits one some part = (ones_part 64 a c fits part).1 (by (cases_eq (count_ones c) 0))
  where
    by : (count_ones c ≡ 0) ⊎ (count_ones c ≢ 0) → count_ones c ≡ count_ones a
    by (inl none) = absurd (some (zero_from_ones c none))
    by (inr more) = omega (arith, one, (ones_part 64 a c fits part).0)

not_zero : (i : ℕ) → 2 ^ i ≢ 0
not_zero i e = omega (arith, bit_at-pow_same i, ap (λ n. bit_at n i) e, bit_at-zero i)

bit_of_power : (i j : ℕ) → bit_at (2 ^ i) j ≡ 1 → j ≡ i
bit_of_power i j h = by (cases_eq j i)
  where
    by : (j ≡ i) ⊎ (j ≢ i) → j ≡ i
    by (inl same) = same
    by (inr other) = absurd (omega (arith, h, bit_at-pow_other i j other))

-- the element of a set of one is its first
pub single_element : (s : sets.Elements) (i : ℕ) → (count_ones s.bits == 1) ≡ true → HasElement s i
    → i ≡ first_element s
single_element s i e h =
    let is : s.bits ≡ 2 ^ i = single_bits s.bits (2 ^ i) s.fits (eqb-true (count_ones s.bits) 1 e)
    (not_zero i) part in
    let first = bit_at-trailing_zeros w64 s.bits s.some s.fits in
    sym (bit_of_power i (trailing_zeros w64 s.bits)
    (sym (ap (λ n. bit_at n (trailing_zeros w64 s.bits)) is) ∙ first.1))
  where
    part : HasBitsOf s.bits (2 ^ i)
    part j k = ap (bit_at s.bits) (bit_of_power i j k) ∙ h

-- ---- one point

-- knowing more of it is knowing no more, but for a contradiction
pub single_stays : (x x' : Info) → Below x x' → x' ≢ Contradiction → is_single x ≡ true → x ≡ x'
single_stays (Span a) (Span c) p n e =
    let same : a.lo ≡ a.hi = (Decides-int_eq a.lo a.hi).0 e in
    ap Span (same_span a c (omega (arith, ints, c.ordered)) (omega (arith, ints, c.ordered)))
single_stays (Set a) (Set c) p n e =
    ap Set (same_elements a c (single_bits a.bits c.bits a.fits (eqb-true (count_ones a.bits) 1 e)
    (λ none. absurd (omega (arith, c.some))) p))
single_stays (Sym a) (Sym c) p n e = ap Sym p
single_stays (Span a) Contradiction p n e = absurd (n refl)
single_stays (Set a) Contradiction p n e = absurd (n refl)
single_stays (Sym a) Contradiction p n e = absurd (n refl)
single_stays Nothing x' p n e = absurd (never e)
single_stays Contradiction x' p n e = absurd (never e)
single_stays x x' p n e = search rules

-- its points are the same
pub single_points : (x : Info) (p q : Point) → is_single x ≡ true → Holds x p → Holds x q → p ≡ q
single_points (Span a) (Number u) (Number v) e h k =
    let same : a.lo ≡ a.hi = (Decides-int_eq a.lo a.hi).0 e in
    ap Number (omega (arith, ints, h.0, h.1, k.0, k.1))
single_points (Set s) (Element i) (Element j) e h k =
    ap Element (single_element s i e h ∙ sym (single_element s j e k))
single_points (Sym a) (Symbol b) (Symbol c) e h k = ap Symbol (sym h ∙ k)
single_points Nothing p q e h k = absurd (never e)
single_points Contradiction p q e h k = absurd (never e)
single_points x p q e h k = search rules

-- ---- one truth

pub yes_single : (count_ones yes_bits == 1) ≡ true
unfolding lib.Count.ones
yes_single = refl

pub no_single : (count_ones no_bits == 1) ≡ true
unfolding lib.Count.ones
no_single = refl

first_of_yes : trailing_zeros w64 yes_bits ≡ 0
unfolding lib.Count.count_trailing_zeros
first_of_yes = refl

first_of_no : trailing_zeros w64 no_bits ≡ 1
unfolding lib.Count.count_trailing_zeros
first_of_no = refl

just_single : (bits : ℕ) (t : Info) → (count_ones bits == 1) ≡ true → is_just bits t ≡ true
    → is_single t ≡ true
just_single bits (Set s) one e = ap (λ n. count_ones n == 1) (eqb-true s.bits bits e) ∙ one
just_single bits Nothing one e = absurd (never e)
just_single bits (Span a) one e = absurd (never e)
just_single bits (Sym a) one e = absurd (never e)
just_single bits Contradiction one e = absurd (never e)

pub just_stays : (bits : ℕ) (t t' : Info) → (count_ones bits == 1) ≡ true → Below t t'
    → t' ≢ Contradiction → is_just bits t ≡ true → is_just bits t' ≡ true
just_stays bits t t' one p n e =
    subst (λ a. is_just bits a ≡ true) (single_stays t t' p n (just_single bits t one e)) e

just_element : (bits : ℕ) (t : Info) (i : ℕ) → (count_ones bits == 1) ≡ true → is_just bits t ≡ true
    → Holds t (Element i) → i ≡ trailing_zeros w64 bits
just_element bits (Set s) i one e h =
    let is : s.bits ≡ bits = eqb-true s.bits bits e in
    single_element s i (ap (λ n. count_ones n == 1) is ∙ one) h ∙ ap (trailing_zeros w64) is
just_element bits Nothing i one e h = absurd (never e)
just_element bits (Span a) i one e h = absurd (never e)
just_element bits (Sym a) i one e h = absurd (never e)
just_element bits Contradiction i one e h = absurd (never e)

-- the truth that it leaves
pub yes_element : (t : Info) (i : ℕ) → is_just yes_bits t ≡ true → Holds t (Element i) → i ≡ 0
yes_element t i e h = just_element yes_bits t i yes_single e h ∙ first_of_yes

pub no_element : (t : Info) (i : ℕ) → is_just no_bits t ≡ true → Holds t (Element i) → i ≡ 1
no_element t i e h = just_element no_bits t i no_single e h ∙ first_of_no
