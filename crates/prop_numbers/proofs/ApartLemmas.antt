-- Bits that are set in just one of two words.
use Rattle.std.proofs.Common.{◌≡◌, ◌≢◌, ◌∙◌, ℕ, ◌+◌, ◌*◌, ◌/◌, ◌%◌, ◌^◌, ◌<◌, Bool, true, false, ◌&&◌, ◌==◌}
use Rattle.std.proofs.Common.{sym, ap, subst, arith, bit_and, bit_xor}
use Rattle.std.specs.Int.{bit_at, w64, trailing_zeros}
use Rattle.std.proofs.lemmas.Bool.Decides.{nat_tests}
use Rattle.std.proofs.lemmas.Nat.{and_le_r}
use Rattle.std.proofs.lemmas.Nat.Bits.{bit_at-lt, bit_at_xor}
use Rattle.prop_numbers.specs.Sets.{Members}
use Rattle.prop_numbers.specs.Words.{is_set}
use Rattle.prop_numbers.proofs.BitLemmas.{is_set-and, is_set-zero, lowest}

same_bit : (x y z : ℕ) → x < 2 → y < 2 → z ≡ (x + y) % 2 → (z == 1) ≡ false → (x == 1) ≡ (y == 1)
same_bit x y z l m e h =
    let off : z ≢ 1 = grind (arith, nat_tests) in
    let is : x ≡ y = omega (arith, l, m, e, off) in
    ap (λ n. n == 1) is

other_bit : (x y z : ℕ) → x < 2 → y < 2 → z ≡ (x + y) % 2 → (z == 1) ≡ true → (x == 1) ≢ (y == 1)
other_bit x y z l m e h = λ same.
    let on : z ≡ 1 = grind (arith, nat_tests) in
    let apart : x ≢ y = (λ s. absurd (omega (arith, e, on, s))) in
    grind (arith, nat_tests)

xor_same : (a b i : ℕ) → is_set (bit_xor a b) i ≡ false → is_set a i ≡ is_set b i
unfolding is_set
xor_same a b i h = same_bit (bit_at a i) (bit_at b i) (bit_at (bit_xor a b) i) (bit_at-lt a i) (bit_at-lt b i)
    (bit_at_xor a b i) h

xor_other : (a b i : ℕ) → is_set (bit_xor a b) i ≡ true → is_set a i ≢ is_set b i
unfolding is_set
xor_other a b i h = other_bit (bit_at a i) (bit_at b i) (bit_at (bit_xor a b) i) (bit_at-lt a i) (bit_at-lt b i)
    (bit_at_xor a b i) h

first_off : (b c : Bool) → (b && c) ≡ false → c ≡ true → b ≡ false
first_off true c h e = cc (h, e)
first_off false c h e = cc

both_on : (b c : Bool) → (b && c) ≡ true → (b ≡ true) × (c ≡ true)
both_on true true h = (h, h)
both_on true false h = cc
both_on false c h = cc

-- no bit of the mask tells the words apart
pub masked_same : (a b mask i : ℕ) → bit_and (bit_xor a b) mask ≡ 0 → is_set mask i ≡ true → is_set a i ≡ is_set b i
masked_same a b mask i none on =
    xor_same a b i (first_off (is_set (bit_xor a b) i) (is_set mask i)
    (sym (is_set-and (bit_xor a b) mask i) ∙ ap (λ w. is_set w i) none ∙ is_set-zero i) on)

-- some bit of the mask does
pub masked_other : (a b mask : ℕ) → mask < 2 ^ 64 → bit_and (bit_xor a b) mask ≢ 0
    → (i : ℕ) × (i < 64) × (is_set mask i ≡ true) × (is_set a i ≢ is_set b i)
masked_other a b mask fits some =
    let first = lowest (bit_and (bit_xor a b) mask) some (omega (arith, fits, and_le_r (bit_xor a b) mask)) in
    let both = both_on (is_set (bit_xor a b) (trailing_zeros w64 (bit_and (bit_xor a b) mask)))
    (is_set mask (trailing_zeros w64 (bit_and (bit_xor a b) mask)))
    (sym (is_set-and (bit_xor a b) mask (trailing_zeros w64 (bit_and (bit_xor a b) mask))) ∙ first.1) in (
      trailing_zeros w64 (bit_and (bit_xor a b) mask),
      first.0,
      both.1,
      xor_other a b (trailing_zeros w64 (bit_and (bit_xor a b) mask)) both.0,
    )

-- ---- the same of two sets, by the words with the same place

module _ (s t : Members) (place a b mask : ℕ) (own : (i : ℕ) → i < 64 → is_set a i ≡ s (64 * place + i))
    (other : (i : ℕ) → i < 64 → is_set b i ≡ t (64 * place + i)) where
  pub alike_at : bit_and (bit_xor a b) mask ≡ 0 → (p : ℕ) → p / 64 ≡ place → is_set mask (p % 64) ≡ true → s p ≡ t p
  alike_at none p here on =
      let at : 64 * place + p % 64 ≡ p = omega (arith, here) in
      subst (λ n. s n ≡ t n) at (sym (own (p % 64) (omega arith)) ∙ masked_same a b mask (p % 64) none on
      ∙ other (p % 64) (omega arith))

  pub apart_at : mask < 2 ^ 64 → bit_and (bit_xor a b) mask ≢ 0
      → (i : ℕ) × (i < 64) × (is_set mask i ≡ true) × (s (64 * place + i) ≢ t (64 * place + i))
  apart_at fits some =
      let out = masked_other a b mask fits some in
      (out.0, out.1, out.2, λ e. out.3 (own out.0 out.1 ∙ e ∙ sym (other out.0 out.1)))
