-- The bits of one word.
use Rattle.std.proofs.Common.{◌≡◌, ◌≢◌, ℕ, suc, ◌+◌, ◌-◌, ◌*◌, ◌%◌, ◌^◌, ◌<◌, ◌≤◌, Bool, true, false, not, ◌||◌, ◌&&◌}
use Rattle.std.proofs.Common.{◌==◌, min, max, refl, sym, ap, ◌∙◌, arith, inl, inr, nat_lt, nat_eq, bit_and, bit_or}
use Rattle.std.proofs.Common.{bit_xor}
use Rattle.std.specs.Int.{bit_at, bit_not, w64, trailing_zeros, leading_zeros}
use Rattle.std.proofs.Math.Pow.{pow-lt}
use Rattle.std.proofs.Math.Nat.{pow-suc}
use Rattle.std.proofs.lemmas.Nat.{pow_pos, leading_top, and_le_l}
use Rattle.std.proofs.lemmas.Bool.{cases_eq, cases_lt}
use Rattle.std.proofs.lemmas.Bool.Decides.{nat_tests}
use Rattle.std.proofs.lemmas.Nat.Bits.{bit_at-zero, bit_at-lt, bit_at_and, bit_at_or, bit_at_not, bit_at-pow_same}
use Rattle.std.proofs.lemmas.Nat.Bits.{bit_at-pow_other, bit_at_ones, bit_at_ones_above, bit_at_above, bit_at_cat_high}
use Rattle.std.proofs.lemmas.Nat.Bits.{bit_at-trailing_zeros, bit_at_clear_same, bit_at_clear_other, and_pow}
use Rattle.std.proofs.lemmas.Nat.Bits.{bit_at_xor, same_from_bits}
use Rattle.prop_numbers.specs.Words.{is_set}

and_true : (b : Bool) → (b && true) ≡ b
and_true true = refl
and_true false = refl

and_false : (b : Bool) → (b && false) ≡ false
and_false true = refl
and_false false = refl

either_is_one : (a b c : ℕ) → a < 2 → b < 2 → c ≡ max a b → (c == 1) ≡ ((a == 1) || (b == 1))
either_is_one a b c l m e = grind (arith, nat_tests)

both_are_one : (a b c : ℕ) → a < 2 → b < 2 → c ≡ min a b → (c == 1) ≡ ((a == 1) && (b == 1))
both_are_one a b c l m e = grind (arith, nat_tests)

pub is_set-zero : (i : ℕ) → is_set 0 i ≡ false
unfolding is_set
is_set-zero i = rw (bit_at-zero i) refl

pub is_set-or : (a b i : ℕ) → is_set (bit_or a b) i ≡ (is_set a i || is_set b i)
unfolding is_set
is_set-or a b i = either_is_one (bit_at a i) (bit_at b i) (bit_at (bit_or a b) i) (bit_at-lt a i) (bit_at-lt b i)
    (bit_at_or a b i)

pub is_set-and : (a b i : ℕ) → is_set (bit_and a b) i ≡ (is_set a i && is_set b i)
unfolding is_set
is_set-and a b i = both_are_one (bit_at a i) (bit_at b i) (bit_at (bit_and a b) i) (bit_at-lt a i) (bit_at-lt b i)
    (bit_at_and a b i)

flips : (a b : ℕ) → a < 2 → b ≡ 1 - a → (b == 1) ≡ not (a == 1)
flips a b l e = grind (arith, nat_tests)

pub is_set-not : (a i : ℕ) → a < 2 ^ 64 → i < 64 → is_set (bit_not w64 a) i ≡ not (is_set a i)
unfolding is_set
is_set-not a i fits l = flips (bit_at a i) (bit_at (bit_not w64 a) i) (bit_at-lt a i) (bit_at_not w64 a i fits l)

pub is_set-pow : (k i : ℕ) → is_set (2 ^ k) i ≡ (k == i)
unfolding is_set
is_set-pow k i = elim (cases_eq i k) [
  | inl same ↦ (
      let e : (k == i) ≡ true = grind (arith, nat_tests) in
      rw (same, bit_at-pow_same k) (grind (arith, nat_tests)))
  | inr other ↦ (
      let e : (k == i) ≡ false = grind (arith, nat_tests) in
      rw (bit_at-pow_other k i other, e) refl)
]

pub is_set-ones : (k i : ℕ) → is_set (2 ^ k - 1) i ≡ nat_lt i k
unfolding is_set
is_set-ones k i = elim (cases_lt i k) [
  | inl below ↦ (
      let e : nat_lt i k ≡ true = grind (arith, nat_tests) in
      rw (bit_at_ones k i below, e) refl)
  | inr above ↦ (
      let e : nat_lt i k ≡ false = grind (arith, nat_tests) in
      rw (bit_at_ones_above k i above, e) refl)
]

pub pow_fits : (k : ℕ) → k < 64 → 2 ^ k < 2 ^ 64
pow_fits k l = pow-lt l

-- the test of one bit
product_test : (a n : ℕ) → a < 2 → 0 < n → not (nat_eq (a * n) 0) ≡ (a == 1)
product_test a n l p = elim (cases_eq a 1) [
  | inl one ↦ rw one (grind (arith, nat_tests))
  | inr other ↦ (let none : a ≡ 0 = omega (arith, l, other) in rw none (grind (arith, nat_tests)))
]

pub tested : (word k : ℕ) → not (nat_eq (bit_and word (2 ^ k)) 0) ≡ is_set word k
unfolding is_set
tested word k = rw (and_pow word k) (product_test (bit_at word k) (2 ^ k) (bit_at-lt word k) (pow_pos k))

-- a word without its bit k
pub is_set-cleared : (word k i : ℕ) → k < 64 → i < 64
    → is_set (bit_and word (bit_not w64 (1 * 2 ^ k % 2 ^ 64))) i ≡ (is_set word i && not (k == i))
unfolding is_set
is_set-cleared word k i l m = elim (cases_eq i k) [
  | inl same ↦ (
      let e : (k == i) ≡ true = grind (arith, nat_tests) in
      ap (λ b. b == 1) (ap (bit_at (bit_and word (bit_not w64 (1 * 2 ^ k % 2 ^ 64)))) same
      ∙ bit_at_clear_same w64 word k l)
      ∙ sym (ap (λ b. (bit_at word i == 1) && not b) e ∙ and_false (bit_at word i == 1)))
  | inr other ↦ (
      let e : (k == i) ≡ false = grind (arith, nat_tests) in
      ap (λ b. b == 1) (bit_at_clear_other w64 word k l i m other)
      ∙ sym (ap (λ b. (bit_at word i == 1) && not b) e ∙ and_true (bit_at word i == 1)))
]

-- the lowest bit of a word that has one
pub lowest : (word : ℕ) → word ≢ 0 → word < 2 ^ 64
    → (trailing_zeros w64 word < 64) × (is_set word (trailing_zeros w64 word) ≡ true) × ((i : ℕ) →
    i < trailing_zeros w64 word → is_set word i ≡ false)
unfolding is_set
lowest word some fits =
    let first = bit_at-trailing_zeros w64 word (omega (arith, some)) fits in
    (first.0, rw first.1 refl, λ i l. rw (first.2 i l) refl)

-- What is told of a word's highest bit.
pub record Highest (word j : ℕ) : Type 0 where
  pub on : is_set word j ≡ true
  pub last : (i : ℕ) → is_set word i ≡ true → i ≤ j

top_is_set : (word j : ℕ) → 2 ^ j ≤ word → word < 2 ^ suc j → is_set word j ≡ true
unfolding is_set
top_is_set word j l u =
    let rest : word - 2 ^ j < 2 ^ j = omega (arith, u, l, pow-suc 2 j) in
    let whole : 1 * 2 ^ j + (word - 2 ^ j) ≡ word = omega (arith, l) in
    let none : j - j ≡ 0 = omega arith in
    ap (λ b. b == 1) (ap (λ n. bit_at n j) (sym whole) ∙ bit_at_cat_high 1 j (word - 2 ^ j) j rest (omega arith)
    ∙ ap (bit_at 1) none)

none_above_top : (word j : ℕ) → word < 2 ^ suc j → (i : ℕ) → is_set word i ≡ true → i ≤ j
unfolding is_set
none_above_top word j u i h = elim (cases_lt i (suc j)) [
  | inl below ↦ omega (arith, below)
  | inr above ↦ cc (h, ap (λ b. b == 1) (bit_at_above word (suc j) i u above))
]

-- the highest bit of a word that has one
pub highest : (word : ℕ) → 0 < word → word < 2 ^ 64 → (j : ℕ) × (leading_zeros w64 word + suc j ≡ 64) × Highest word j
highest word some fits =
    let top = leading_top 64 word some fits in
    (top.0, top.1, record { on = top_is_set word top.0 top.2 top.3; last = none_above_top word top.0 top.3 })

-- ---- the bits of one word that are in another

and_not : (b c : Bool) → (b && not c) ≡ false → b ≡ true → c ≡ true
and_not true true e h = refl
and_not true false e h = cc
and_not false c e h = cc

only_first : (b c : Bool) → (b && not c) ≡ true → (b ≡ true) × (c ≡ false)
only_first true true e = cc
only_first true false e = (refl, refl)
only_first false c e = cc

pub is_set-part : (word other i : ℕ) → other < 2 ^ 64 → i < 64 → bit_and word (bit_not w64 other) ≡ 0
    → is_set word i ≡ true → is_set other i ≡ true
is_set-part word other i fits l none h =
    and_not (is_set word i) (is_set other i)
    (ap (λ b. is_set word i && b) (sym (is_set-not other i fits l)) ∙ sym (is_set-and word (bit_not w64 other) i)
    ∙ ap (λ w. is_set w i) none ∙ is_set-zero i)
    h

pub is_set-apart : (word other : ℕ) → word < 2 ^ 64 → other < 2 ^ 64 → bit_and word (bit_not w64 other) ≢ 0 →
    (i : ℕ) × (i < 64) × (is_set word i ≡ true) × (is_set other i ≡ false)
is_set-apart word other fits other_fits some =
    let first = lowest (bit_and word (bit_not w64 other)) some (omega (arith, fits, and_le_l word (bit_not w64 other)))
    in
    at (trailing_zeros w64 (bit_and word (bit_not w64 other))) first.0 first.1
  where
    at : (i : ℕ) → i < 64 → is_set (bit_and word (bit_not w64 other)) i ≡ true
        → (i : ℕ) × (i < 64) × (is_set word i ≡ true) × (is_set other i ≡ false)
    at i l h =
        let both = only_first (is_set word i) (is_set other i)
        (ap (λ b. is_set word i && b) (sym (is_set-not other i other_fits l))
        ∙ sym (is_set-and word (bit_not w64 other) i) ∙ h) in
        (i, l, both.0, both.1)

-- ---- two words together

max_zero : (a b : ℕ) → max a b ≡ 0 → (a ≡ 0) × (b ≡ 0)
max_zero a b e = (omega (arith, e), omega (arith, e))

-- where two words have no bit together, neither has one
pub both_zero : (a b : ℕ) → bit_or a b ≡ 0 → (a ≡ 0) × (b ≡ 0)
both_zero a b e = (
  same_from_bits a 0 (λ i. (bits i).0 ∙ sym (bit_at-zero i)),
  same_from_bits b 0 (λ i. (bits i).1 ∙ sym (bit_at-zero i)),
)
  where
    bits : (i : ℕ) → (bit_at a i ≡ 0) × (bit_at b i ≡ 0)
    bits i = max_zero (bit_at a i) (bit_at b i) (sym (bit_at_or a b i) ∙ ap (λ n. bit_at n i) e ∙ bit_at-zero i)

-- where two words have no bit in common, the bit of one is none of the other
pub other_out : (a b i : ℕ) → bit_and a b ≡ 0 → is_set a i ≡ true → is_set b i ≡ false
other_out a b i none on =
    sym (ap (λ t. t && is_set b i) on) ∙ sym (is_set-and a b i) ∙ ap (λ n. is_set n i) none ∙ is_set-zero i

one_of_two : (a b c : ℕ) → a < 2 → b < 2 → c ≡ (a + b) % 2 → ¬ ((a == 1) ≡ (b == 1)) → (c == 1) ≡ true
one_of_two a b c l m e apart = elim (cases_eq a b) [
  | inl same ↦ absurd (apart (ap (λ n. n == 1) same))
  | inr other ↦ (let one : c ≡ 1 = omega (arith, l, m, e, other) in grind (arith, nat_tests))
]

-- a bit of just one of two words
pub is_set-xor : (a b i : ℕ) → ¬ (is_set a i ≡ is_set b i) → is_set (bit_xor a b) i ≡ true
unfolding is_set
is_set-xor a b i apart =
    one_of_two (bit_at a i) (bit_at b i) (bit_at (bit_xor a b) i) (bit_at-lt a i) (bit_at-lt b i) (bit_at_xor a b i)
    apart
