-- What changes from one set of numbers to another.
use Rattle.std.proofs.Common.{◌≡◌, ◌≢◌, ◌∙◌, ℕ, ◌+◌, ◌-◌, ◌*◌, ◌/◌, ◌%◌, ◌<◌, ◌≤◌, Bool, true, false, ◌||◌, ◌&&◌, List, []}
use Rattle.std.proofs.Common.{◌∷◌, refl, sym, ap, subst, arith, inl, inr, bit_and, bit_xor}
use Rattle.std.specs.Prelude.{Option, Some, None, is_some}
use Rattle.std.proofs.lemmas.Bool.{cases_eq, cases_lt}
use Rattle.prop_numbers.specs.Sets.{Members, set_of, is_within, is_alike}
use Rattle.prop_numbers.specs.Words.{is_set, numbers_from}
use Rattle.prop_numbers.proofs.BitLemmas.{other_out, is_set-xor}
use Rattle.prop_numbers.proofs.PlaceLemmas.{own_bit, below_from, above_from}
use Rattle.prop_numbers.proofs.WithinLemmas.{within_from}
use Rattle.prop_numbers.proofs.WordLemmas.{has_bit-past}

-- what is not so is false
pub out : (b : Bool) → ¬ (b ≡ true) → b ≡ false
out true h = absurd (h refl)
out false h = refl

-- ---- the numbers of two words

pub at_first : (place a b p : ℕ) → p / 64 ≡ place
    → set_of (numbers_from (64 * place) (a ∷ b ∷ [])) p ≡ is_set a (p % 64)
at_first place a b p here =
    let at : 64 * (place + 0) + p % 64 ≡ p = omega (arith, here) in
    ap (set_of (numbers_from (64 * place) (a ∷ b ∷ []))) (sym at) ∙ own_bit place 0 (p % 64) (a ∷ b ∷ []) (omega arith)

pub at_second : (place a b p : ℕ) → p / 64 ≡ place + 1
    → set_of (numbers_from (64 * place) (a ∷ b ∷ [])) p ≡ is_set b (p % 64)
at_second place a b p here =
    let at : 64 * (place + 1) + p % 64 ≡ p = omega (arith, here) in
    ap (set_of (numbers_from (64 * place) (a ∷ b ∷ []))) (sym at) ∙ own_bit place 1 (p % 64) (a ∷ b ∷ []) (omega arith)

elsewhere : (place a b p : ℕ) → p / 64 ≢ place → p / 64 ≢ place + 1
    → set_of (numbers_from (64 * place) (a ∷ b ∷ [])) p ≡ false
elsewhere place a b p not_first not_second = elim (cases_lt p (64 * place)) [
  | inl low ↦ below_from (64 * place) p (a ∷ b ∷ []) low
  | inr high ↦ above_from (64 * place) p (a ∷ b ∷ []) high
      ∙ has_bit-past (a ∷ b ∷ []) (p - 64 * place) (omega (arith, high, not_first, not_second))
]

-- ---- words of two sets

module _ (s t : Members) where
  -- the words at a place tell whether a number there is in both
  pub same_word : (place a b p : ℕ) → ((i : ℕ) → i < 64 → is_set a i ≡ s (64 * place + i))
      → ((i : ℕ) → i < 64 → is_set b i ≡ t (64 * place + i)) → a ≡ b → p / 64 ≡ place → s p ≡ t p
  same_word place a b p own other same here =
      let at : 64 * place + p % 64 ≡ p = omega (arith, here) in
      subst (λ n. s n ≡ t n) at
      (sym (own (p % 64) (omega arith)) ∙ ap (λ w. is_set w (p % 64)) same ∙ other (p % 64) (omega arith))

  pub apart_word : (place a b p : ℕ) → ((i : ℕ) → i < 64 → is_set a i ≡ s (64 * place + i))
      → ((i : ℕ) → i < 64 → is_set b i ≡ t (64 * place + i)) → s p ≢ t p → p / 64 ≡ place
      → is_set (bit_xor a b) (p % 64) ≡ true
  apart_word place a b p own other apart here =
      let at : 64 * place + p % 64 ≡ p = omega (arith, here) in
      is_set-xor a b (p % 64) (λ same. (
      apart (subst (λ n. s n ≡ t n) at
      (sym (own (p % 64) (omega arith)) ∙ same ∙ other (p % 64) (omega arith)))))

  -- past both sets
  pub same_past : (end p : ℕ) → (s p ≡ true → p / 64 < end) → (t p ≡ true → p / 64 < end) → end ≤ p / 64 → s p ≡ t p
  same_past end p own other past =
      out (s p) (λ h. (let l = own h in absurd (omega (arith, l, past))))
      ∙ sym (out (t p) (λ h. (let l = other h in absurd (omega (arith, l, past)))))

  -- where they agree below two words, by these, and behind them unless the rest may change
  pub covered : (place a b c d : ℕ) (rest : Bool) → ((i : ℕ) → i < 64 → is_set a i ≡ s (64 * place + i))
      → ((i : ℕ) → i < 64 → is_set b i ≡ t (64 * place + i))
      → ((i : ℕ) → i < 64 → is_set c i ≡ s (64 * (place + 1) + i))
      → ((i : ℕ) → i < 64 → is_set d i ≡ t (64 * (place + 1) + i))
      → ((p : ℕ) → p / 64 < place → s p ≡ t p) → (rest ≡ false → (p : ℕ) → place + 2 ≤ p / 64 → s p ≡ t p) → (p : ℕ)
      → s p ≢ t p
      → (rest || set_of (numbers_from (64 * place) (bit_xor a b ∷ bit_xor c d ∷ [])) p) ≡ true
  covered place a b c d true a_is b_is c_is d_is before behind p apart = refl
  covered place a b c d false a_is b_is c_is d_is before behind p apart = elim (cases_lt (p / 64) place) [
    | inl low ↦ absurd (apart (before p low))
    | inr high ↦ elim (cases_eq (p / 64) place) [
      | inl here ↦ at_first place (bit_xor a b) (bit_xor c d) p here ∙ apart_word place a b p a_is b_is apart here
      | inr other ↦ elim (cases_eq (p / 64) (place + 1)) [
        | inl here ↦ at_second place (bit_xor a b) (bit_xor c d) p here
            ∙ apart_word (place + 1) c d p c_is d_is apart here
        | inr past ↦ absurd (apart (behind refl p (omega (arith, high, other, past))))
      ]
    ]
  ]

-- ---- a set without numbers that may change

pub unmet : (s : Members) (place a b v w : ℕ) → ((i : ℕ) → i < 64 → is_set v i ≡ s (64 * place + i))
    → ((i : ℕ) → i < 64 → is_set w i ≡ s (64 * (place + 1) + i)) → bit_and v a ≡ 0 → bit_and w b ≡ 0 → (p : ℕ)
    → s p ≡ true → set_of (numbers_from (64 * place) (a ∷ b ∷ [])) p ≡ false
unmet s place a b v w v_is w_is none_first none_second p h = elim (cases_eq (p / 64) place) [
  | inl here ↦ (
      let at : 64 * place + p % 64 ≡ p = omega (arith, here) in
      at_first place a b p here
      ∙ other_out v a (p % 64) none_first
      (v_is (p % 64) (omega arith) ∙ subst (λ n. s n ≡ true) (sym at) h))
  | inr other ↦ elim (cases_eq (p / 64) (place + 1)) [
    | inl here ↦ (
        let at : 64 * (place + 1) + p % 64 ≡ p = omega (arith, here) in
        at_second place a b p here
        ∙ other_out w b (p % 64) none_second
        (w_is (p % 64) (omega arith) ∙ subst (λ n. s n ≡ true) (sym at) h))
    | inr past ↦ elsewhere place a b p other past
  ]
]

-- ---- a place that was looked for

pub no_place : (r : Option ℕ) → is_some r ≡ false → r ≡ None
no_place (Some place) h = cc
no_place None h = refl

pub off_with : (b c : Bool) → b ≡ false → c ≡ false → (b || c) ≡ false
off_with true c off e = cc
off_with false c off e = e

-- ---- lists of the same numbers

all_within : (s : List ℕ) → is_within (set_of s) s ≡ true
all_within s = within_from (set_of s) s (λ p h. h)

pub alike : (s t : List ℕ) → s ≡ t → true ≡ is_alike s t
alike s t same =
    subst (λ u. true ≡ is_alike s u) same
    (sym (ap (λ b. b && is_within (set_of s) s) (all_within s) ∙ all_within s))
