-- Tests of bits, and how many bits are set.
use Rattle.std.specs.Prelude.{◌≡◌, ℕ, ◌<◌, ◌≤◌, ◌+◌, ◌^◌, ◌%◌, ◌/◌, bit_and, ◌==◌, IsTrue, ◌↔◌, count_ones, ◌-◌, zero}
use Rattle.std.specs.Prelude.{suc}
use Rattle.std.specs.Int.{bit_at}
use Rattle.std.proofs.Common.{inl, inr, arith, ap, sym, subst, ◌∙◌, eqb-true, eq-eqb, pow-suc}
use Rattle.std.proofs.lemmas.Nat.Bits.{same_from_bits, bit_at-zero, bit_at-suc, bit_at_lowest, bit_at_above}
use Rattle.std.proofs.lemmas.Nat.Bits.{bit_at_ones}
use Rattle.std.proofs.lemmas.Nat.{shr-shr, pow_pos}
use Rattle.std.proofs.lemmas.Bool.{cases_lt}
use Rattle.std.specs.Int.Count.{ones_step, ones-ones}
use Rattle.prop_lattice.specs.laws.Parts.{HasBitsOf}
use Rattle.prop_lattice.specs.Parts.{AllBelow}
use Rattle.prop_lattice.specs.laws.PartLaws.{bit_at_le, part_left, part_right, part_least, same_parts, part_of_none}

pub and_from_part : (a b : ℕ) → HasBitsOf a b → bit_and a b ≡ b
and_from_part a b p = same_parts (bit_and a b) b (part_least a b b p (λ i h. h)) (part_right a b)

pub part_from_and : (a b : ℕ) → bit_and a b ≡ b → HasBitsOf a b
part_from_and a b e = let P : ℕ → Type 0 = λ n. HasBitsOf a n in subst P e (part_left a b)

pub part_test : (a b : ℕ) → IsTrue (bit_and a b == b) ↔ HasBitsOf a b
part_test a b = (λ t. part_from_and a b (eqb-true (bit_and a b) b t), λ p. eq-eqb (bit_and a b) b (and_from_part a b p))

-- ---- bits below a size

bit_of_shr : (n k i : ℕ) → bit_at (n / 2 ^ k) i ≡ bit_at n (k + i)
bit_of_shr n k i = ap (λ m. m % 2) (shr-shr n k i)

pub below_from_shr : (n k : ℕ) → n / 2 ^ k ≡ 0 → AllBelow k n
below_from_shr n k e i h = elim (cases_lt i k) [
  | inl l ↦ l
  | inr g ↦ absurd (omega (
    arith,
    h,
    bit_of_shr n k (i - k),
    ap (λ m. bit_at m (i - k)) e,
    bit_at-zero (i - k),
    ap (λ j. bit_at n j) (back i k g),
  ))
]
  where
    back : (i k : ℕ) → k ≤ i → k + (i - k) ≡ i
    back i k g = omega arith

pub shr_from_below : (n k : ℕ) → AllBelow k n → n / 2 ^ k ≡ 0
shr_from_below n k p = same_from_bits (n / 2 ^ k) 0 (λ i. none i (p (k + i)) ∙ sym (bit_at-zero i))
  where
    none : (i : ℕ) → (bit_at n (k + i) ≡ 1 → k + i < k) → bit_at (n / 2 ^ k) i ≡ 0
    none i q = grind (arith, bit_of_shr n k i, bit_at_le n (k + i))

pub below_test : (n k : ℕ) → IsTrue (n / 2 ^ k == 0) ↔ AllBelow k n
below_test n k = (λ t. below_from_shr n k (eqb-true (n / 2 ^ k) 0 t), λ p. eq-eqb (n / 2 ^ k) 0 (shr_from_below n k p))

pub below_top : (n : ℕ) → n < 2 ^ 64 → AllBelow 64 n
below_top n l i h = elim (cases_lt i 64) [ inl b ↦ b | inr g ↦ absurd (omega (arith, h, bit_at_above n 64 i l g)) ]

-- ---- how many bits are set

pub ones_part : (k a b : ℕ) → a < 2 ^ k → HasBitsOf a b
    → (count_ones b ≤ count_ones a) × (count_ones b ≡ count_ones a → a ≡ b)
ones_part zero a b l p =
    let ea : a ≡ 0 = omega arith in
    let eb : b ≡ 0 = part_of_none a b ea p in
    (omega (arith, ap count_ones ea, ap count_ones eb), λ e. omega arith)
ones_part (suc k) a b l p =
    let half : a / 2 < 2 ^ k = omega (arith, pow-suc 2 k) in
    let ih : (count_ones (b / 2) ≤ count_ones (a / 2)) × (count_ones (b / 2) ≡ count_ones (a / 2) → a / 2 ≡ b / 2) =
    ones_part k (a / 2) (b / 2) half (λ i h. sym (bit_at-suc a i) ∙ p (suc i) (bit_at-suc b i ∙ h)) in
    let low : b % 2 ≤ a % 2 = low_bit a b (p 0) in (
      omega (arith, ones_step a, ones_step b, ih.0),
      λ e.
          let halves : a / 2 ≡ b / 2 = ih.1 (omega (arith, ones_step a, ones_step b, ih.0)) in
          omega (arith, ones_step a, ones_step b, ap count_ones halves),
    )
  where
    low_bit : (a b : ℕ) → (bit_at b 0 ≡ 1 → bit_at a 0 ≡ 1) → b % 2 ≤ a % 2
    low_bit a b q = grind (arith, bit_at_lowest a, bit_at_lowest b)

pub ones_of_below : (n k : ℕ) → AllBelow k n → count_ones n ≤ k
ones_of_below n k p = omega (
  arith,
  (ones_part k (2 ^ k - 1) n (omega (arith, pow_pos k))
      (λ i h. bit_at_ones k i (p i h))).0,
  ones-ones k,
)
