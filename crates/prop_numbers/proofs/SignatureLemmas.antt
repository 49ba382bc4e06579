-- The remainders that the numbers of a set leave, as bits of two words.
use Rattle.std.proofs.Common.{◌≡◌, ◌≢◌, ℕ, ◌+◌, ◌-◌, ◌*◌, ◌/◌, ◌%◌, ◌<◌, ◌≤◌, ◌^◌, Bool, true, false, ◌||◌, ◌&&◌}
use Rattle.std.proofs.Common.{◌==◌, List, [], ◌∷◌, length, get_or, refl, sym, ap, subst, ◌∙◌, arith, inl, inr, ◌⊎◌}
use Rattle.std.proofs.Common.{bit_or, bit_and}
use Rattle.std.specs.Int.{bit_not, w64}
use Rattle.std.proofs.lemmas.Bool.{cases_eq, cases_lt}
use Rattle.std.proofs.lemmas.Bool.Decides.{nat_tests, eqb_tells}
use Rattle.prop_numbers.specs.Sets.{Members, set_of, is_within, IsPart}
use Rattle.prop_numbers.specs.Words.{is_set, has_bit, numbers_from}
use Rattle.prop_numbers.specs.Signatures.{AreRemainders}
use Rattle.prop_numbers.proofs.BitLemmas.{is_set-zero, is_set-or, is_set-part, is_set-apart}
use Rattle.prop_numbers.proofs.OneLemmas.{one_in, one_at}
use Rattle.prop_numbers.proofs.PlaceLemmas.{from_in, own_bit}
use Rattle.prop_numbers.proofs.WithinLemmas.{within_has}
use Rattle.prop_numbers.proofs.WordLemmas.{has_bit-past, or_none, or_first, or_last, within_words}

-- ---- the bits of two words

first_of : (e o i : ℕ) → i / 64 ≡ 0 → has_bit (e ∷ o ∷ []) i ≡ is_set e (i % 64)
unfolding has_bit
first_of e o i at = ap (λ k. is_set (get_or (e ∷ o ∷ []) k 0) (i % 64)) at

second_of : (e o i : ℕ) → i / 64 ≡ 1 → has_bit (e ∷ o ∷ []) i ≡ is_set o (i % 64)
unfolding has_bit
second_of e o i at = ap (λ k. is_set (get_or (e ∷ o ∷ []) k 0) (i % 64)) at

past_both : (e o i : ℕ) → 128 ≤ i → has_bit (e ∷ o ∷ []) i ≡ false
past_both e o i l = has_bit-past (e ∷ o ∷ []) i (omega (arith, l))

-- the same bits, and those of a word that isn't the one at hand
beside : (b t : Bool) (w i : ℕ) → t ≡ false → b ≡ (b || (t && is_set w i))
beside b t w i e = sym (ap (λ c. b || (c && is_set w i)) e ∙ or_none b)

here_too : (b t : Bool) (w i : ℕ) → t ≡ true → (b || is_set w i) ≡ (b || (t && is_set w i))
here_too b t w i e = ap (λ c. b || (c && is_set w i)) (sym e)

-- a word's bits join the first
pub with_first : (e o w m i : ℕ) → m ≡ 0
    → has_bit (bit_or e w ∷ o ∷ []) i ≡ (has_bit (e ∷ o ∷ []) i || ((i / 64 == m) && is_set w (i % 64)))
with_first e o w m i at = elim (cases_eq (i / 64) 0) [
  | inl here ↦ (
      let is : (i / 64 == m) ≡ true = grind (arith, nat_tests) in
      first_of (bit_or e w) o i here ∙ is_set-or e w (i % 64)
      ∙ ap (λ b. b || is_set w (i % 64)) (sym (first_of e o i here))
      ∙ here_too (has_bit (e ∷ o ∷ []) i) (i / 64 == m) w (i % 64) is)
  | inr other ↦ (
      let out : (i / 64 == m) ≡ false = grind (arith, nat_tests) in
      same other ∙ beside (has_bit (e ∷ o ∷ []) i) (i / 64 == m) w (i % 64) out)
]
  where
    same : i / 64 ≢ 0 → has_bit (bit_or e w ∷ o ∷ []) i ≡ has_bit (e ∷ o ∷ []) i
    same other = elim (cases_eq (i / 64) 1) [
      | inl odd ↦ second_of (bit_or e w) o i odd ∙ sym (second_of e o i odd)
      | inr past ↦ (
          let l : 128 ≤ i = omega (arith, other, past) in
          past_both (bit_or e w) o i l ∙ sym (past_both e o i l))
    ]

-- a word's bits join the second
pub with_second : (e o w m i : ℕ) → m ≡ 1
    → has_bit (e ∷ bit_or o w ∷ []) i ≡ (has_bit (e ∷ o ∷ []) i || ((i / 64 == m) && is_set w (i % 64)))
with_second e o w m i at = elim (cases_eq (i / 64) 1) [
  | inl here ↦ (
      let is : (i / 64 == m) ≡ true = grind (arith, nat_tests) in
      second_of e (bit_or o w) i here ∙ is_set-or o w (i % 64)
      ∙ ap (λ b. b || is_set w (i % 64)) (sym (second_of e o i here))
      ∙ here_too (has_bit (e ∷ o ∷ []) i) (i / 64 == m) w (i % 64) is)
  | inr other ↦ (
      let out : (i / 64 == m) ≡ false = grind (arith, nat_tests) in
      same other ∙ beside (has_bit (e ∷ o ∷ []) i) (i / 64 == m) w (i % 64) out)
]
  where
    same : i / 64 ≢ 1 → has_bit (e ∷ bit_or o w ∷ []) i ≡ has_bit (e ∷ o ∷ []) i
    same other = elim (cases_eq (i / 64) 0) [
      | inl even ↦ first_of e (bit_or o w) i even ∙ sym (first_of e o i even)
      | inr past ↦ (
          let l : 128 ≤ i = omega (arith, other, past) in
          past_both e (bit_or o w) i l ∙ sym (past_both e o i l))
    ]

-- ---- the bits of two words that are among those of two others

module _ (e o f g : ℕ) (e_fits : e < 2 ^ 64) (o_fits : o < 2 ^ 64) (f_fits : f < 2 ^ 64) (g_fits : g < 2 ^ 64) where
  pub part_of_both : bit_and e (bit_not w64 f) ≡ 0 → bit_and o (bit_not w64 g) ≡ 0
      → IsPart (has_bit (e ∷ o ∷ [])) (has_bit (f ∷ g ∷ []))
  part_of_both even odd = λ i h. elim (cases_eq (i / 64) 0) [
    | inl here ↦ first_of f g i here
        ∙ is_set-part e f (i % 64) f_fits (omega arith) even (sym (first_of e o i here) ∙ h)
    | inr other ↦ elim (cases_eq (i / 64) 1) [
      | inl here ↦ second_of f g i here
          ∙ is_set-part o g (i % 64) g_fits (omega arith) odd (sym (second_of e o i here) ∙ h)
      | inr past ↦ cc (h, past_both e o i (omega (arith, other, past)))
    ]
  ]

  pub first_part : IsPart (has_bit (e ∷ o ∷ [])) (has_bit (f ∷ g ∷ [])) → bit_and e (bit_not w64 f) ≡ 0
  first_part h = elim (cases_eq (bit_and e (bit_not w64 f)) 0) [
    | inl none ↦ none
    | inr some ↦ (
        let out = is_set-apart e f e_fits f_fits some in
        let at : out.0 / 64 ≡ 0 = omega (arith, out.1) in
        let bit : out.0 % 64 ≡ out.0 = omega (arith, out.1) in
        let on = first_of e o out.0 at ∙ ap (is_set e) bit ∙ out.2 in
        cc (sym (first_of f g out.0 at ∙ ap (is_set f) bit ∙ out.3) ∙ h out.0 on))
  ]

  pub second_part : IsPart (has_bit (e ∷ o ∷ [])) (has_bit (f ∷ g ∷ [])) → bit_and o (bit_not w64 g) ≡ 0
  second_part h = elim (cases_eq (bit_and o (bit_not w64 g)) 0) [
    | inl none ↦ none
    | inr some ↦ (
        let out = is_set-apart o g o_fits g_fits some in
        let at : (64 + out.0) / 64 ≡ 1 = omega (arith, out.1) in
        let bit : (64 + out.0) % 64 ≡ out.0 = omega (arith, out.1) in
        let on = second_of e o (64 + out.0) at ∙ ap (is_set o) bit ∙ out.2 in
        cc (sym (second_of f g (64 + out.0) at ∙ ap (is_set g) bit ∙ out.3) ∙ h (64 + out.0) on))
  ]

-- ---- words one after another

or_cases : (b c : Bool) → (b || c) ≡ true → (b ≡ true) ⊎ (c ≡ true)
or_cases true c h = inl refl
or_cases false c h = inr h

and_both : (b c : Bool) → (b && c) ≡ true → (b ≡ true) × (c ≡ true)
and_both true true h = (refl, refl)
and_both true false h = cc
and_both false c h = cc

same_test : (n p : ℕ) → n ≡ p → (n == p) ≡ true
same_test n p e = grind (arith, nat_tests)

from_test : (n p : ℕ) → (n == p) ≡ true → n ≡ p
from_test n p h = elim (eqb_tells n p) [ inl e ↦ e.1 | inr e ↦ cc (e.0, h) ]

-- the remainders are those of the first so many words
pub record AreOfFirst (first : ℕ) (words : List ℕ) (n : ℕ) (rs : Members) : Type 0 where
  pub has : (k i : ℕ) → k < n → i < 64 → is_set (get_or words k 0) i ≡ true → rs (64 * ((first + k) % 2) + i) ≡ true
  pub only : (j : ℕ) → rs j ≡ true
      → (k : ℕ) × (k < n) × (j / 64 ≡ (first + k) % 2) × (is_set (get_or words k 0) (j % 64) ≡ true)

pub of_no_word : (first : ℕ) (words : List ℕ) (rs : Members) → ((i : ℕ) → rs i ≡ false) → AreOfFirst first words 0 rs
of_no_word first words rs none = record {
  has = λ k i l m h. absurd (omega (arith, l));
  only = λ j h. cc (none j, h);
}

pub of_one_more : (first : ℕ) (words : List ℕ) (n : ℕ) (rs more : Members) → AreOfFirst first words n rs
    → ((j : ℕ) → more j ≡ (rs j || ((j / 64 == (first + n) % 2) && is_set (get_or words n 0) (j % 64))))
    → AreOfFirst first words (n + 1) more
of_one_more first words n rs more before is = record { has = has; only = only }
  where
    test : ℕ → Bool
    test j = (j / 64 == (first + n) % 2) && is_set (get_or words n 0) (j % 64)

    has : (k i : ℕ) → k < n + 1 → i < 64 → is_set (get_or words k 0) i ≡ true
        → more (64 * ((first + k) % 2) + i) ≡ true
    has k i l m h = elim (cases_lt k n) [
      | inl below ↦ is (64 * ((first + k) % 2) + i)
          ∙ or_first (rs (64 * ((first + k) % 2) + i)) (test (64 * ((first + k) % 2) + i)) (before.has k i below m h)
      | inr above ↦ (
          let here : k ≡ n = omega (arith, l, above) in
          let j = 64 * ((first + k) % 2) + i in
          let at : j / 64 ≡ (first + n) % 2 = omega (arith, m, here) in
          let bit : i ≡ j % 64 = omega (arith, m) in
          let on : is_set (get_or words n 0) (j % 64) ≡ true =
          subst (λ b. is_set (get_or words n 0) b ≡ true) bit
          (subst (λ p. is_set (get_or words p 0) i ≡ true) here h) in
          is j ∙ or_last (rs j) (test j)
          (ap (λ b. b && is_set (get_or words n 0) (j % 64)) (same_test (j / 64) ((first + n) % 2) at) ∙ on))
    ]

    only : (j : ℕ) → more j ≡ true
        → (k : ℕ) × (k < n + 1) × (j / 64 ≡ (first + k) % 2) × (is_set (get_or words k 0) (j % 64) ≡ true)
    only j h = elim (or_cases (rs j) (test j) (sym (is j) ∙ h)) [
      | inl old ↦ (let its = before.only j old in (its.0, omega (arith, its.1), its.2, its.3))
      | inr new ↦ (
          let both = and_both (j / 64 == (first + n) % 2) (is_set (get_or words n 0) (j % 64)) new in
          (n, omega arith, from_test (j / 64) ((first + n) % 2) both.0, both.1))
    ]

-- the numbers of the words leave them
pub of_words : (first : ℕ) (words : List ℕ) (n : ℕ) (rs : Members) → length words ≤ n → AreOfFirst first words n rs
    → AreRemainders (set_of (numbers_from (64 * first) words)) rs
unfolding has_bit
of_words first words n rs all are = record { has = has; only = only }
  where
    has : (p : ℕ) → set_of (numbers_from (64 * first) words) p ≡ true → rs (p % 128) ≡ true
    has p h =
        let there = from_in (64 * first) p words h in
        let q = p - 64 * first in
        let within = within_words words q there.1 in
        let at : 64 * ((first + q / 64) % 2) + q % 64 ≡ p % 128 = omega (arith, there.0) in
        subst (λ j. rs j ≡ true) at (are.has (q / 64) (q % 64) (omega (arith, within, all)) (omega arith) there.1)

    only : (i : ℕ) → rs i ≡ true → (p : ℕ) × (set_of (numbers_from (64 * first) words) p ≡ true) × (p % 128 ≡ i)
    only i h =
        let its = are.only i h in (
          64 * (first + its.0) + i % 64,
          own_bit first its.0 (i % 64) words (omega arith) ∙ its.3,
          omega (arith, its.2),
        )

-- the numbers of one word leave them
pub of_one_word : (place word : ℕ) (none rs : Members) → ((i : ℕ) → none i ≡ false)
    → ((j : ℕ) → rs j ≡ (none j || ((j / 64 == place % 2) && is_set word (j % 64))))
    → AreRemainders (set_of (numbers_from (64 * place) (word ∷ []))) rs
of_one_word place word none rs empty is = record { has = has; only = only }
  where
    has : (p : ℕ) → set_of (numbers_from (64 * place) (word ∷ [])) p ≡ true → rs (p % 128) ≡ true
    has p h =
        let there = one_in place word p h in
        let at : p % 128 / 64 ≡ place % 2 = omega (arith, there.0) in
        let bit : p % 64 ≡ p % 128 % 64 = omega arith in
        is (p % 128) ∙ or_last (none (p % 128)) _
        (ap (λ b. b && is_set word (p % 128 % 64)) (same_test (p % 128 / 64) (place % 2) at)
        ∙ subst (λ b. is_set word b ≡ true) bit there.1)

    only : (i : ℕ) → rs i ≡ true → (p : ℕ) × (set_of (numbers_from (64 * place) (word ∷ [])) p ≡ true) × (p % 128 ≡ i)
    only i h = elim (or_cases (none i) ((i / 64 == place % 2) && is_set word (i % 64)) (sym (is i) ∙ h)) [
      | inl old ↦ cc (empty i, old)
      | inr new ↦ (
          let both = and_both (i / 64 == place % 2) (is_set word (i % 64)) new in
          let at = from_test (i / 64) (place % 2) both.0 in (
            64 * place + i % 64,
            one_at place word (i % 64) (omega arith) ∙ both.1,
            omega (arith, at),
          ))
    ]

-- two words without bits leave none
pub none_left : (i : ℕ) → has_bit (0 ∷ 0 ∷ []) i ≡ false
none_left i = elim (cases_eq (i / 64) 0) [
  | inl even ↦ first_of 0 0 i even ∙ is_set-zero (i % 64)
  | inr other ↦ elim (cases_eq (i / 64) 1) [
    | inl odd ↦ second_of 0 0 i odd ∙ is_set-zero (i % 64)
    | inr past ↦ past_both 0 0 i (omega (arith, other, past))
  ]
]

-- ---- what the remainders tell

-- a set of which some remainder is none of another's is no part of it
pub no_part : (t : Members) (s : List ℕ) (rs others : Members) → AreRemainders (set_of s) rs → AreRemainders t others
    → ¬ (IsPart rs others) → is_within t s ≡ false
no_part t s rs others own its apart = by (is_within t s) refl
  where
    by : (b : Bool) → is_within t s ≡ b → is_within t s ≡ false
    by true w = absurd (apart (λ i h. (
        let from = own.only i h in
        subst (λ j. others j ≡ true) from.2 (its.has from.0 (within_has t s from.0 w from.1)))))
    by false w = w
