-- How many bits words have together.
use Rattle.std.proofs.Common.{◌≡◌, ◌⊎◌, ℕ, zero, suc, ◌+◌, ◌*◌, ◌/◌, ◌^◌, ◌<◌, bit_and, bit_or, arith, ap, sym}
use Rattle.std.proofs.Common.{◌∙◌, inl, inr, pow-suc}
use Rattle.std.specs.Prelude.{count_ones}
use Rattle.std.specs.Int.{bit_at}
use Rattle.std.specs.Int.Count.{ones_step}
use Rattle.std.proofs.lemmas.Bool.{cases_eq}
use Rattle.std.proofs.lemmas.Nat.{or_shr, and_shr, ones_cat, ones_le_self, pow_pos}
use Rattle.std.proofs.lemmas.Nat.Bits.{and_pow, bit_at_or, bit_at_and, bit_at_lowest, bit_at-lt}

-- ---- which bits a union has

pub in_left : (a b i : ℕ) → bit_at a i ≡ 1 → bit_at (bit_or a b) i ≡ 1
in_left a b i h = omega (arith, h, bit_at_or a b i, bit_at-lt b i)

pub in_right : (a b i : ℕ) → bit_at b i ≡ 1 → bit_at (bit_or a b) i ≡ 1
in_right a b i h = omega (arith, h, bit_at_or a b i, bit_at-lt a i)

pub in_one : (a b i : ℕ) → bit_at (bit_or a b) i ≡ 1 → (bit_at a i ≡ 1) ⊎ (bit_at b i ≡ 1)
in_one a b i h = by (cases_eq (bit_at a i) 1)
  where
    by : (bit_at a i ≡ 1) ⊎ (¬ (bit_at a i ≡ 1)) → (bit_at a i ≡ 1) ⊎ (bit_at b i ≡ 1)
    by (inl here) = inl here
    by (inr other) = inr (omega (arith, h, other, bit_at_or a b i, bit_at-lt a i, bit_at-lt b i))

pub in_both : (a b i : ℕ) → bit_at a i ≡ 1 → bit_at b i ≡ 1 → bit_at (bit_and a b) i ≡ 1
in_both a b i h k = omega (arith, h, k, bit_at_and a b i)

-- ---- their numbers

-- what two words have together and what they share are as many as both have
pub ones_shared : (k a b : ℕ) → a < 2 ^ k → b < 2 ^ k
    → count_ones (bit_or a b) + count_ones (bit_and a b) ≡ count_ones a + count_ones b
ones_shared zero a b l m =
    let none : a ≡ 0 = omega (arith, l) in
    let nor : b ≡ 0 = omega (arith, m) in
    (λ i. count_ones (bit_or (none i) (nor i)) + count_ones (bit_and (none i) (nor i)))
    ∙ sym (λ i. count_ones (none i) + count_ones (nor i))
ones_shared (suc k) a b l m =
    let ih = ones_shared k (a / 2) (b / 2) (omega (arith, l, pow-suc 2 k)) (omega (arith, m, pow-suc 2 k)) in
    omega (
      arith,
      ih,
      ones_step a,
      ones_step b,
      ones_step (bit_or a b),
      ones_step (bit_and a b),
      ap count_ones (or_shr a b 1),
      ap count_ones (and_shr a b 1),
      bit_at_lowest (bit_or a b),
      bit_at_lowest (bit_and a b),
      bit_at_lowest a,
      bit_at_lowest b,
      bit_at_or a b 0,
      bit_at_and a b 0,
    )

pub ones_one : (i : ℕ) → count_ones (2 ^ i) ≡ 1
ones_one i =
    let is : 1 * 2 ^ i + 0 ≡ 2 ^ i = omega arith in
    omega (arith, ones_cat i 1 0 (pow_pos i), ones_step 1, ones_le_self 0, ap count_ones is)

-- one bit more
pub ones_more : (k a i : ℕ) → a < 2 ^ k → 2 ^ i < 2 ^ k → ¬ (bit_at a i ≡ 1)
    → count_ones (bit_or a (2 ^ i)) ≡ count_ones a + 1
ones_more k a i l m other = omega (
  arith,
  ones_shared k a (2 ^ i) l m,
  ap count_ones none,
  ones_one i,
  ones_le_self 0,
)
  where
    none : bit_and a (2 ^ i) ≡ 0
    none = and_pow a i ∙ (let zeroth : bit_at a i ≡ 0 = omega (arith, other, bit_at-lt a i) in
        rw zeroth (omega arith))
