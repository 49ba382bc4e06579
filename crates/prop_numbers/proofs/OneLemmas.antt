-- The numbers of one word.
use Rattle.std.proofs.Common.{◌≡◌, ◌≢◌, ℕ, ◌+◌, ◌-◌, ◌*◌, ◌/◌, ◌%◌, ◌<◌, ◌≤◌, ◌^◌, Bool, true, false, not, ◌||◌, ◌&&◌}
use Rattle.std.proofs.Common.{◌==◌, zero, suc, List, [], ◌∷◌, length, get_or, refl, sym, ap, ◌∙◌, arith, inl, inr}
use Rattle.std.proofs.Common.{bit_or, bit_and, rules}
use Rattle.std.specs.Int.{bit_not, w64, trailing_zeros}
use Rattle.std.proofs.lemmas.Bool.{cases_eq, cases_lt}
use Rattle.std.proofs.lemmas.Bool.Decides.{nat_tests}
use Rattle.prop_numbers.specs.Sets.{set_of}
use Rattle.prop_numbers.specs.Words.{is_set, has_bit, numbers_from}
use Rattle.prop_numbers.specs.inner.Words.{IsTrimmed, IsForm}
use Rattle.prop_numbers.proofs.BitLemmas.{is_set-zero, is_set-or, is_set-and, is_set-not, is_set-pow, pow_fits, lowest}
use Rattle.prop_numbers.proofs.MergeLemmas.{same_increasing}
use Rattle.prop_numbers.proofs.PlaceLemmas.{below_from, above_from, own_bit}
use Rattle.prop_numbers.proofs.WordLemmas.{has_bit-past, has_bit-same, increasing-numbers_from, or_none}

-- a number with the bit i of the word
pub one_at : (m w i : ℕ) → i < 64 → set_of (numbers_from (64 * m) (w ∷ [])) (64 * m + i) ≡ is_set w i
one_at m w i l =
    let at : 64 * (m + 0) + i ≡ 64 * m + i = omega arith in
    ap (set_of (numbers_from (64 * m) (w ∷ []))) (sym at) ∙ own_bit m 0 i (w ∷ []) l

-- a number of another word
pub one_out : (m w p : ℕ) → p / 64 ≢ m → set_of (numbers_from (64 * m) (w ∷ [])) p ≡ false
one_out m w p other = elim (cases_lt p (64 * m)) [
  | inl low ↦ below_from (64 * m) p (w ∷ []) low
  | inr high ↦ above_from (64 * m) p (w ∷ []) high ∙ has_bit-past (w ∷ []) (p - 64 * m) (omega (arith, high, other))
]

-- a number by its word and its bit
pub one_here : (m w p : ℕ) → p / 64 ≡ m → set_of (numbers_from (64 * m) (w ∷ [])) p ≡ is_set w (p % 64)
one_here m w p here =
    let at : 64 * m + p % 64 ≡ p = omega (arith, here) in
    ap (set_of (numbers_from (64 * m) (w ∷ []))) (sym at) ∙ one_at m w (p % 64) (omega arith)

-- a number that is there is one of the word
pub one_in : (m w p : ℕ) → set_of (numbers_from (64 * m) (w ∷ [])) p ≡ true → (p / 64 ≡ m) × (is_set w (p % 64) ≡ true)
one_in m w p h = elim (cases_eq (p / 64) m) [
  | inl here ↦ (here, sym (one_here m w p here) ∙ h)
  | inr other ↦ cc (one_out m w p other, h)
]

-- the bits of another word of the set
pub one_bits : (m w place v i : ℕ) → (place ≡ m → v ≡ w) → (place ≢ m → v ≡ 0) → i < 64
    → is_set v i ≡ set_of (numbers_from (64 * m) (w ∷ [])) (64 * place + i)
one_bits m w place v i here there l = elim (cases_eq place m) [
  | inl same ↦ ap (λ u. is_set u i) (here same) ∙ sym (one_at m w i l)
      ∙ ap (λ n. set_of (numbers_from (64 * m) (w ∷ [])) (64 * n + i)) (sym same)
  | inr other ↦ ap (λ u. is_set u i) (there other) ∙ is_set-zero i
      ∙ sym (one_out m w (64 * place + i) (omega (arith, other, l)))
]

-- the numbers of both words
pub one_union : (m a b p : ℕ) → set_of (numbers_from (64 * m) (bit_or a b ∷ []))
    p ≡ (set_of (numbers_from (64 * m) (a ∷ [])) p || set_of (numbers_from (64 * m) (b ∷ [])) p)
one_union m a b p = elim (cases_eq (p / 64) m) [
  | inl here ↦ one_here m (bit_or a b) p here ∙ is_set-or a b (p % 64)
      ∙ sym (ap (λ c. c || set_of (numbers_from (64 * m) (b ∷ [])) p) (one_here m a p here)
      ∙ ap (λ c. is_set a (p % 64) || c) (one_here m b p here))
  | inr other ↦ one_out m (bit_or a b) p other
      ∙ sym (ap (λ c. c || set_of (numbers_from (64 * m) (b ∷ [])) p) (one_out m a p other) ∙ one_out m b p other)
]

and_true : (b : Bool) → b ≡ (b && true)
and_true true = refl
and_true false = refl

-- the numbers of a word without one of its bits
pub one_without : (m a n p : ℕ) → n / 64 ≡ m
    → set_of (numbers_from (64 * m) (bit_and a (bit_not w64 (2 ^ (n % 64))) ∷ []))
    p ≡ (set_of (numbers_from (64 * m) (a ∷ [])) p && not (n == p))
one_without m a n p at = elim (cases_eq (p / 64) m) [
  | inl here ↦ (
      let same : (n % 64 == p % 64) ≡ (n == p) = by here in
      one_here m (bit_and a (bit_not w64 (2 ^ (n % 64)))) p here ∙ is_set-and a (bit_not w64 (2 ^ (n % 64))) (p % 64)
      ∙ ap (λ c. is_set a (p % 64) && c)
      (is_set-not (2 ^ (n % 64)) (p % 64) (pow_fits (n % 64) (omega arith)) (omega arith)
      ∙ ap not (is_set-pow (n % 64) (p % 64) ∙ same))
      ∙ sym (ap (λ c. c && not (n == p)) (one_here m a p here)))
  | inr other ↦ one_out m (bit_and a (bit_not w64 (2 ^ (n % 64)))) p other
      ∙ sym (ap (λ c. c && not (n == p)) (one_out m a p other))
]
  where
    by : p / 64 ≡ m → (n % 64 == p % 64) ≡ (n == p)
    by here = elim (cases_eq n p) [
      | inl e ↦ (
          let one : (n == p) ≡ true = grind (arith, nat_tests) in
          let two : (n % 64 == p % 64) ≡ true = grind (arith, nat_tests) in
          two ∙ sym one)
      | inr e ↦ (
          let apart : n % 64 ≢ p % 64 = (λ f. e (omega (arith, f, at, here))) in
          let one : (n == p) ≡ false = grind (arith, nat_tests) in
          let two : (n % 64 == p % 64) ≡ false = grind (arith, nat_tests) in
          two ∙ sym one)
    ]

-- a number of another word is not there anyway
pub one_not_there : (m a n p : ℕ) → n / 64 ≢ m
    → set_of (numbers_from (64 * m) (a ∷ [])) p ≡ (set_of (numbers_from (64 * m) (a ∷ [])) p && not (n == p))
one_not_there m a n p other = elim (cases_eq n p) [
  | inl e ↦ (
      let out : p / 64 ≢ m = (λ f. other (ap (λ k. k / 64) e ∙ f)) in
      one_out m a p out ∙ sym (ap (λ c. c && not (n == p)) (one_out m a p out)))
  | inr e ↦ (
      let apart : (n == p) ≡ false = grind (arith, nat_tests) in
      and_true (set_of (numbers_from (64 * m) (a ∷ [])) p)
      ∙ ap (λ c. set_of (numbers_from (64 * m) (a ∷ [])) p && not c) (sym apart))
]

-- one number alone
pub one_single : (n : ℕ) → numbers_from (64 * (n / 64)) (2 ^ (n % 64) ∷ []) ≡ n ∷ []
one_single n = same_increasing (numbers_from (64 * (n / 64)) (2 ^ (n % 64) ∷ [])) (n ∷ [])
    (increasing-numbers_from (64 * (n / 64)) (2 ^ (n % 64) ∷ [])) (search rules) at
  where
    same : (p : ℕ) → p / 64 ≡ n / 64 → (n % 64 == p % 64) ≡ (n == p)
    same p here = elim (cases_eq n p) [
      | inl e ↦ (
          let one : (n == p) ≡ true = grind (arith, nat_tests) in
          let two : (n % 64 == p % 64) ≡ true = grind (arith, nat_tests) in
          two ∙ sym one)
      | inr e ↦ (
          let apart : n % 64 ≢ p % 64 = (λ f. e (omega (arith, f, here))) in
          let one : (n == p) ≡ false = grind (arith, nat_tests) in
          let two : (n % 64 == p % 64) ≡ false = grind (arith, nat_tests) in
          two ∙ sym one)
    ]

    at : (p : ℕ) → set_of (numbers_from (64 * (n / 64)) (2 ^ (n % 64) ∷ [])) p ≡ set_of (n ∷ []) p
    at p = elim (cases_eq (p / 64) (n / 64)) [
      | inl here ↦ one_here (n / 64) (2 ^ (n % 64)) p here ∙ is_set-pow (n % 64) (p % 64) ∙ same p here
          ∙ sym (or_none (n == p))
      | inr other ↦ (
          let apart : n ≢ p = (λ f. other (ap (λ k. k / 64) (sym f))) in
          let out : (n == p) ≡ false = grind (arith, nat_tests) in
          one_out (n / 64) (2 ^ (n % 64)) p other ∙ sym (or_none (n == p) ∙ out))
    ]

-- a word without numbers has no bit
pub one_none : (m w : ℕ) → w < 2 ^ 64 → numbers_from (64 * m) (w ∷ []) ≡ [] → w ≡ 0
one_none m w fits none = elim (cases_eq w 0) [
  | inl is ↦ is
  | inr some ↦ (
      let first = lowest w some fits in
      cc (sym (one_at m w (trailing_zeros w64 w) first.0 ∙ first.1)
      ∙ ap (λ ns. set_of ns (64 * m + trailing_zeros w64 w)) none))
]

-- a word without bits behind it changes nothing
pub beside_blank : (w p : ℕ) → has_bit (w ∷ 0 ∷ []) p ≡ has_bit (w ∷ []) p
beside_blank w p = has_bit-same (w ∷ 0 ∷ []) (w ∷ []) same p
  where
    same : (k : ℕ) → get_or (w ∷ 0 ∷ []) k 0 ≡ get_or (w ∷ []) k 0
    same zero = refl
    same (suc zero) = refl
    same (suc (suc k)) = refl

-- the form of the numbers of one word
pub one_form : (place w : ℕ) (words : List ℕ) → place < 1_024 → IsTrimmed words → length words ≤ 2
    → ((p : ℕ) → has_bit words p ≡ has_bit (w ∷ 0 ∷ []) p) → IsForm place words
one_form place w words low trimmed few same = record {
  trimmed = trimmed;
  in_range = elim (cases_lt 1 (length words)) [
    | inl two ↦ (
        let past = trimmed 1 (omega (arith, two, few)) in
        cc (sym past.2 ∙ same past.0 ∙ beside_blank w past.0, has_bit-past (w ∷ []) past.0 (omega (arith, past.1))))
    | inr single ↦ omega (arith, single, low)
  ];
}
