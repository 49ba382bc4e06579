-- Sets of numbers as words of which the first has another number than 0.
use Rattle.std.proofs.Common.{◌≡◌, ℕ, ◌+◌, ◌-◌, ◌*◌, ◌/◌, ◌%◌, ◌<◌, ◌≤◌, Bool, true, false, not, ◌||◌, ◌&&◌, ◌==◌, zero}
use Rattle.std.proofs.Common.{suc, List, [], ◌∷◌, ◌++◌, length, drop, get_or, refl, sym, ap, ◌∙◌, arith, inl, inr, ◌⊎◌}
use Rattle.std.proofs.Common.{nat_lt, nat_le, filter, max, min, bit_or, bit_and, nat_eq, ◌^◌}
use Rattle.std.proofs.lemmas.Bool.{cases_lt}
use Rattle.std.proofs.lemmas.Bool.Decides.{nat_tests}
use Rattle.std.proofs.lemmas.List.{length-drop}
use Rattle.std.proofs.lemmas.List.Folds.{list_any-append}
use Rattle.std.proofs.lemmas.List.Kept.{IsStrictlyIncreasing-filter}
use Rattle.prop_numbers.specs.Sets.{set_of, is_below, IsBelow}
use Rattle.prop_numbers.specs.Words.{is_set, has_bit, numbers_from}
use Rattle.prop_numbers.specs.inner.Words.{HasFrom, IsTrimmed, IsForm}
use Rattle.prop_numbers.proofs.BitLemmas.{is_set-zero, is_set-or}
use Rattle.prop_numbers.proofs.MergeLemmas.{same_increasing}
use Rattle.prop_numbers.proofs.SetLemmas.{set_of-filter}
use Rattle.prop_numbers.proofs.WithinLemmas.{is_within-told}
use Rattle.prop_numbers.proofs.WordLemmas.{or_first, or_last, or_none, and_false, increasing-push, set_of-numbers_from}
use Rattle.prop_numbers.proofs.WordLemmas.{numbers_from-nil, has_bit-tested, increasing-numbers_from, has_bit-past}
use Rattle.prop_numbers.proofs.WordLemmas.{is_number, from_below, from_above}

and_both : (b c : Bool) → (b && c) ≡ true → (b ≡ true) × (c ≡ true)
and_both true true h = (refl, refl)
and_both true false h = cc
and_both false c h = cc

-- ---- a number of the set and its bit

pub below_from : (n p : ℕ) (words : List ℕ) → p < n → set_of (numbers_from n words) p ≡ false
below_from n p words l = set_of-numbers_from n words p ∙ from_below n p (has_bit words (p - n)) l

pub above_from : (n p : ℕ) (words : List ℕ) → n ≤ p → set_of (numbers_from n words) p ≡ has_bit words (p - n)
above_from n p words l = set_of-numbers_from n words p ∙ from_above n p (has_bit words (p - n)) l

pub in_from : (n q : ℕ) (words : List ℕ) → has_bit words q ≡ true → set_of (numbers_from n words) (n + q) ≡ true
in_from n q words h =
    let there : n + q - n ≡ q = omega arith in
    above_from n (n + q) words (omega arith) ∙ ap (has_bit words) there ∙ h

pub from_in : (n p : ℕ) (words : List ℕ) → set_of (numbers_from n words) p ≡ true
    → (n ≤ p) × (has_bit words (p - n) ≡ true)
from_in n p words h =
    let both = and_both (nat_le n p) (has_bit words (p - n)) (sym (set_of-numbers_from n words p) ∙ h) in
    let tested = both.0 in
    (grind (arith, nat_tests), both.1)

pub same_from : (n m : ℕ) (a b : List ℕ) → ((p : ℕ) → set_of (numbers_from n a) p ≡ set_of (numbers_from m b) p)
    → numbers_from n a ≡ numbers_from m b
same_from n m a b h = same_increasing (numbers_from n a) (numbers_from m b) (increasing-numbers_from n a)
    (increasing-numbers_from m b) h

pub same_bits_from : (n : ℕ) (a b : List ℕ) → ((p : ℕ) → has_bit a p ≡ has_bit b p)
    → numbers_from n a ≡ numbers_from n b
same_bits_from n a b h =
    same_from n n a b (λ p. set_of-numbers_from n a p ∙ ap (λ c. nat_le n p && c) (h (p - n))
    ∙ sym (set_of-numbers_from n b p))

-- only words without a last have no numbers
pub no_words_from : (n : ℕ) (words : List ℕ) → IsTrimmed words → numbers_from n words ≡ [] → words ≡ []
no_words_from n [] trimmed e = refl
no_words_from n (w ∷ ws) trimmed e =
    let some = trimmed (length ws) (omega arith) in
    cc (sym (in_from n some.0 (w ∷ ws) some.2) ∙ ap (λ ns. set_of ns (n + some.0)) e)

-- ---- the word of a number

pub word_bit : (m n w i : ℕ) (words : List ℕ) → (n < m → w ≡ 0) → (m ≤ n → w ≡ get_or words (n - m) 0) → i < 64 →
    set_of (numbers_from (64 * m) words) (64 * n + i) ≡ is_set w i
word_bit m n w i words before from l = elim (cases_lt n m) [
  | inl low ↦ below_from (64 * m) (64 * n + i) words (omega (arith, low, l))
      ∙ sym (ap (λ v. is_set v i) (before low) ∙ is_set-zero i)
  | inr high ↦ (
      let at : 64 * n + i - 64 * m ≡ 64 * (n - m) + i = omega (arith, high) in
      above_from (64 * m) (64 * n + i) words (omega (arith, high)) ∙ ap (has_bit words) at ∙ is_number words (n - m) i l
      ∙ ap (λ v. is_set v i) (sym (from high)))
]

-- a word of the row itself
pub own_bit : (first place i : ℕ) (words : List ℕ) → i < 64
    → set_of (numbers_from (64 * first) words) (64 * (first + place) + i) ≡ is_set (get_or words place 0) i
own_bit first place i words l =
    let at : first + place - first ≡ place = omega arith in
    word_bit first (first + place) (get_or words place 0) i words (λ low. absurd (omega (arith, low)))
    (λ _. ap (λ k. get_or words k 0) (sym at)) l

-- the test of a number's bit
pub tested_from : (f place n word bit : ℕ) (words : List ℕ) → place ≡ n / 64 → bit ≡ 2 ^ (n % 64) → f ≤ place
    → word ≡ get_or words (place - f) 0 →
    not (nat_eq (bit_and word bit) 0) ≡ set_of (numbers_from (64 * f) words) n
tested_from f place n word bit words at is l e =
    let number : (n - 64 * f) / 64 ≡ place - f = omega (arith, at, l) in
    let same : n % 64 ≡ (n - 64 * f) % 64 = omega (arith, at, l) in
    ap (λ b. not (nat_eq (bit_and word b) 0)) (is ∙ ap (λ k. 2 ^ k) same)
    ∙ has_bit-tested words (n - 64 * f) word (e ∙ ap (λ k. get_or words k 0) (sym number))
    ∙ sym (above_from (64 * f) n words (omega (arith, at, l)))

-- ---- words that stand further on

pub moved : (m a f p : ℕ) (words : List ℕ) → f ≡ m + a → 64 * m ≤ p
    → set_of (numbers_from (64 * a) words) (p - 64 * m) ≡ set_of (numbers_from (64 * f) words) p
moved m a f p words e l = elim (cases_lt p (64 * f)) [
  | inl low ↦ below_from (64 * a) (p - 64 * m) words (omega (arith, e, low, l)) ∙ sym (below_from (64 * f) p words low)
  | inr high ↦ (
      let at : p - 64 * m - 64 * a ≡ p - 64 * f = omega (arith, e) in
      above_from (64 * a) (p - 64 * m) words (omega (arith, e, high))
      ∙ ap (has_bit words) at ∙ sym (above_from (64 * f) p words high))
]

-- words with others before them
pub led_from : (m a f : ℕ) (longer words : List ℕ) → f ≡ m + a
    → ((p : ℕ) → has_bit longer p ≡ set_of (numbers_from (64 * a) words) p) →
    numbers_from (64 * m) longer ≡ numbers_from (64 * f) words
led_from m a f longer words e h = same_from (64 * m) (64 * f) longer words (λ p. elim (cases_lt p (64 * m)) [
  | inl low ↦ below_from (64 * m) p longer low ∙ sym (below_from (64 * f) p words (omega (arith, e, low)))
  | inr high ↦ above_from (64 * m) p longer high ∙ h (p - 64 * m) ∙ moved m a f p words e high
])

get_or-drop : (k i : ℕ) (words : List ℕ) → get_or (drop k words) i 0 ≡ get_or words (k + i) 0
get_or-drop zero i words = let same : 0 + i ≡ i = omega arith in ap (λ k. get_or words k 0) (sym same)
get_or-drop (suc k) i [] = refl
get_or-drop (suc k) i (w ∷ ws) = let next : suc k + i ≡ suc (k + i) = omega arith in get_or-drop k i ws
    ∙ ap (λ j. get_or (w ∷ ws) j 0) (sym next)

has_bit-drop : (k q : ℕ) (words : List ℕ) → has_bit (drop k words) q ≡ has_bit words (64 * k + q)
unfolding has_bit
has_bit-drop k q words =
    let place : (64 * k + q) / 64 ≡ k + q / 64 = omega arith in
    let bit : (64 * k + q) % 64 ≡ q % 64 = omega arith in
    ap (λ w. is_set w (q % 64)) (get_or-drop k (q / 64) words) ∙ sym (rw (place, bit) refl)

blank_bit : (words : List ℕ) (k q : ℕ) → ((j : ℕ) → j < k → get_or words j 0 ≡ 0) → q < 64 * k → has_bit words q ≡ false
unfolding has_bit
blank_bit words k q h l = ap (λ w. is_set w (q % 64)) (h (q / 64) (omega (arith, l))) ∙ is_set-zero (q % 64)

-- words without those before the first that has a bit
pub dropped_from : (first k : ℕ) (words : List ℕ) → ((j : ℕ) → j < k → get_or words j 0 ≡ 0) →
    numbers_from (64 * (first + k)) (drop k words) ≡ numbers_from (64 * first) words
dropped_from first k words h = same_from (64 * (first + k)) (64 * first) (drop k words) words by
  where
    by : (p : ℕ) → set_of (numbers_from (64 * (first + k)) (drop k words)) p ≡ set_of (numbers_from (64 * first) words)
        p
    by p = elim (cases_lt p (64 * (first + k))) [
      | inl low ↦ below_from (64 * (first + k)) p (drop k words) low ∙ sym (elim (cases_lt p (64 * first)) [
        | inl lower ↦ below_from (64 * first) p words lower
        | inr high ↦ above_from (64 * first) p words high
            ∙ blank_bit words k (p - 64 * first) h (omega (arith, low, high))
      ])
      | inr high ↦ (
          let at : 64 * k + (p - 64 * (first + k)) ≡ p - 64 * first = omega (arith, high) in
          above_from (64 * (first + k)) p (drop k words) high ∙ has_bit-drop k (p - 64 * (first + k)) words
          ∙ ap (has_bit words) at
          ∙ sym (above_from (64 * first) p words (omega (arith, high))))
    ]

pub IsTrimmed-drop : (k : ℕ) (words : List ℕ) → k ≤ length words → IsTrimmed words → IsTrimmed (drop k words)
IsTrimmed-drop k words l trimmed n e =
    let some = trimmed (k + n) (omega (arith, e, l, length-drop k words)) in
    let at : 64 * k + (some.0 - 64 * k) ≡ some.0 = omega (arith, some.1) in
    (some.0 - 64 * k, omega (arith, some.1), has_bit-drop k (some.0 - 64 * k) words ∙ ap (has_bit words) at ∙ some.2)

-- ---- one more number, and one less

-- one more number
pub added_from : (f n : ℕ) (a b : List ℕ) → 64 * f ≤ n → ((q : ℕ) → has_bit b q ≡ (has_bit a q || (n - 64 * f == q)))
    → (p : ℕ) →
    set_of (numbers_from (64 * f) b) p ≡ (set_of (numbers_from (64 * f) a) p || (n == p))
added_from f n a b l h p = elim (cases_lt p (64 * f)) [
  | inl low ↦ (
      let other : (n == p) ≡ false = grind (arith, nat_tests) in
      below_from (64 * f) p b low ∙ sym (rw other
      (or_none (set_of (numbers_from (64 * f) a) p) ∙ below_from (64 * f) p a low)))
  | inr high ↦ (
      let same : (n - 64 * f == p - 64 * f) ≡ (n == p) = grind (arith, nat_tests) in
      above_from (64 * f) p b high ∙ h (p - 64 * f) ∙ ap (λ c. has_bit a (p - 64 * f) || c) same
      ∙ sym (ap (λ c. c || (n == p)) (above_from (64 * f) p a high)))
]

-- the form of a set with one more number
pub IsForm-added_from : (first f n : ℕ) (a b : List ℕ) → IsForm first a → n < 65_536 → f ≤ n / 64
    → (length a ≡ 0 → first ≤ n / 64) →
    f + length b ≡ max (first + length a) (n / 64 + 1)
    → ((p : ℕ) → set_of (numbers_from (64 * f) b) p ≡ (set_of (numbers_from (64 * first) a) p || (n == p))) →
    IsForm f b
IsForm-added_from first f n a b form low start none len h = record {
  trimmed = λ m e. by m e (cases_lt (n / 64) (f + m));
  in_range = omega (arith, len, form.in_range, low);
}
  where
    own : (n == n) ≡ true
    own = grind (arith, nat_tests)

    some : (m : ℕ) → length b ≡ m + 1 → n / 64 < f + m → (0 < length a) ⊎ (length a ≤ 0) → 0 < length a
    some m e longer (inl l) = l
    some m e longer (inr not_any) = let empty : length a ≡ 0 =
        omega (arith, not_any) in absurd (omega (arith, len, e, longer, empty, none empty))

    by : (m : ℕ) → length b ≡ m + 1 → (n / 64 < f + m) ⊎ (f + m ≤ n / 64) → HasFrom b m
    by m e (inl longer) =
        let any = some m e longer (cases_lt 0 (length a)) in
        let some = form.trimmed (length a - 1) (omega (arith, any)) in
        let there = from_in (64 * f) (64 * first + some.0) b (h (64 * first + some.0)
        ∙ or_first (set_of (numbers_from (64 * first) a) (64 * first + some.0)) (n == 64 * first + some.0)
        (in_from (64 * first) some.0 a some.2)) in
        (64 * first + some.0 - 64 * f, omega (arith, some.1, len, e, longer, any), there.1)
    by m e (inr here) =
        let there = from_in (64 * f) n b (h n ∙ or_last (set_of (numbers_from (64 * first) a) n) (n == n) own) in
        (n - 64 * f, omega (arith, here, len, e), there.1)

-- one number less
pub cleared_from : (f n : ℕ) (a b : List ℕ) → 64 * f ≤ n
    → ((q : ℕ) → has_bit b q ≡ (has_bit a q && not (n - 64 * f == q))) → (p : ℕ) →
    set_of (numbers_from (64 * f) b) p ≡ (set_of (numbers_from (64 * f) a) p && not (n == p))
cleared_from f n a b l h p = elim (cases_lt p (64 * f)) [
  | inl low ↦ below_from (64 * f) p b low ∙ sym (ap (λ c. c && not (n == p)) (below_from (64 * f) p a low))
  | inr high ↦ (
      let same : (n - 64 * f == p - 64 * f) ≡ (n == p) = grind (arith, nat_tests) in
      above_from (64 * f) p b high ∙ h (p - 64 * f) ∙ ap (λ c. has_bit a (p - 64 * f) && not c) same
      ∙ sym (ap (λ c. c && not (n == p)) (above_from (64 * f) p a high)))
]

-- a number that is below the first word
pub not_there_from : (f n : ℕ) (a : List ℕ) → n < 64 * f → (p : ℕ)
    → set_of (numbers_from (64 * f) a) p ≡ (set_of (numbers_from (64 * f) a) p && not (n == p))
not_there_from f n a l p = elim (cases_lt p (64 * f)) [
  | inl low ↦ below_from (64 * f) p a low ∙ sym (ap (λ c. c && not (n == p)) (below_from (64 * f) p a low))
  | inr high ↦ (
      let other : (n == p) ≡ false = grind (arith, nat_tests) in
      rw other (sym (and_true (set_of (numbers_from (64 * f) a) p))))
]
  where
    and_true : (b : Bool) → (b && true) ≡ b
    and_true true = refl
    and_true false = refl

-- ---- the numbers below a bound

pub filter_from : (n m : ℕ) (a b : List ℕ) (t : ℕ → Bool)
    → ((p : ℕ) → set_of (numbers_from n b) p ≡ (set_of (numbers_from m a) p && t p)) →
    numbers_from n b ≡ filter t (numbers_from m a)
filter_from n m a b t h =
    same_increasing (numbers_from n b) (filter t (numbers_from m a)) (increasing-numbers_from n b)
    (IsStrictlyIncreasing-filter t (numbers_from m a) (increasing-numbers_from m a))
    (λ p. h p ∙ sym (set_of-filter t (numbers_from m a) p))

pub cut_from : (f n : ℕ) (a b : List ℕ) → 64 * f ≤ n → ((q : ℕ) → has_bit b q ≡ (has_bit a q && nat_lt q (n - 64 * f)))
    →
    numbers_from (64 * f) b ≡ filter (λ p. nat_lt p n) (numbers_from (64 * f) a)
cut_from f n a b l h = filter_from (64 * f) (64 * f) a b (λ p. nat_lt p n) (λ p. elim (cases_lt p (64 * f)) [
  | inl low ↦ below_from (64 * f) p b low ∙ sym (ap (λ c. c && nat_lt p n) (below_from (64 * f) p a low))
  | inr high ↦ (
      let same : nat_lt (p - 64 * f) (n - 64 * f) ≡ nat_lt p n = grind (arith, nat_tests) in
      above_from (64 * f) p b high ∙ h (p - 64 * f) ∙ ap (λ c. has_bit a (p - 64 * f) && c) same
      ∙ sym (ap (λ c. c && nat_lt p n) (above_from (64 * f) p a high)))
])

pub none_from : (f n : ℕ) (a : List ℕ) → n ≤ 64 * f
    → numbers_from (64 * f) [] ≡ filter (λ p. nat_lt p n) (numbers_from (64 * f) a)
none_from f n a l = filter_from (64 * f) (64 * f) a [] (λ p. nat_lt p n)
    (λ p. none p ∙ sym (elim (cases_lt p (64 * f)) [
      | inl low ↦ ap (λ c. c && nat_lt p n) (below_from (64 * f) p a low)
      | inr high ↦ (
          let out : nat_lt p n ≡ false = grind (arith, nat_tests) in
          rw out (and_false (set_of (numbers_from (64 * f) a) p)))
    ]))
  where
    none : (p : ℕ) → set_of (numbers_from (64 * f) []) p ≡ false
    none p = elim (cases_lt p (64 * f)) [
      | inl low ↦ below_from (64 * f) p [] low
      | inr high ↦ above_from (64 * f) p [] high ∙ has_bit-past [] (p - 64 * f) (omega arith)
    ]

-- whether all are below a bound, by one above the last
pub below_from_end : (f : ℕ) (words : List ℕ) (end bound : ℕ) → IsTrimmed words → 0 < length words
    → ((p : ℕ) → has_bit words p ≡ true → p < end) →
    ((p : ℕ) → end ≡ p + 1 → has_bit words p ≡ true)
    → nat_le (64 * f + end) bound ≡ is_below bound (numbers_from (64 * f) words)
below_from_end f words end bound trimmed some above last =
    is_within-told (λ p. nat_lt p bound) (numbers_from (64 * f) words) (nat_le (64 * f + end) bound)
    (λ t p i. (
    let there = from_in (64 * f) p words i in
    let l = above (p - 64 * f) there.1 in
    let from = there.0 in
    grind (arith, nat_tests)))
    (λ out. (
    let first = trimmed (length words - 1) (omega (arith, some)) in
    let high = above first.0 first.2 in
    let at : end ≡ end - 1 + 1 = omega (arith, high) in
    let past : bound < 64 * f + end = grind (arith, nat_tests) in
    (64 * f + (end - 1), in_from (64 * f) (end - 1) words (last (end - 1) at), grind (arith, nat_tests))))

pub below_none : (n bound : ℕ) (words : List ℕ) → (length words == 0) ≡ true
    → true ≡ is_below bound (numbers_from n words)
below_none n bound [] h = rw (numbers_from-nil n) refl
below_none n bound (w ∷ ws) h = grind (arith, nat_tests)

-- ---- the numbers of two sets

pub united_from : (m f g : ℕ) (a b blank one both : List ℕ) → m ≤ f → m ≤ g → ((q : ℕ) → has_bit blank q ≡ false) →
    ((q : ℕ) → has_bit one q ≡ (has_bit blank q || set_of (numbers_from (64 * (f - m)) a) q)) →
    ((q : ℕ) → has_bit both q ≡ (has_bit one q || set_of (numbers_from (64 * (g - m)) b) q)) → (p : ℕ) →
    set_of (numbers_from (64 * m) both) p ≡ (set_of (numbers_from (64 * f) a) p || set_of (numbers_from (64 * g) b) p)
united_from m f g a b blank one both l k none h i p = elim (cases_lt p (64 * m)) [
  | inl low ↦ below_from (64 * m) p both low
      ∙ sym (ap (λ c. c || set_of (numbers_from (64 * g) b) p) (below_from (64 * f) p a (omega (arith, low, l)))
      ∙ below_from (64 * g) p b (omega (arith, low, k)))
  | inr high ↦ above_from (64 * m) p both high ∙ i (p - 64 * m)
      ∙ ap (λ c. c || set_of (numbers_from (64 * (g - m)) b) (p - 64 * m)) (h (p - 64 * m)
      ∙ ap (λ c. c || set_of (numbers_from (64 * (f - m)) a) (p - 64 * m)) (none (p - 64 * m))
      ∙ moved m (f - m) f p a (omega (arith, l)) high)
      ∙ ap (λ c. set_of (numbers_from (64 * f) a) p || c) (moved m (g - m) g p b (omega (arith, k)) high)
]

-- the form of the numbers of two sets
pub IsForm-united_from : (m f g : ℕ) (a b both : List ℕ) → IsForm f a → IsForm g b → 0 < length a → 0 < length b
    → m ≡ min f g →
    length both ≡ max (f + length a) (g + length b) - m →
    ((p : ℕ) → set_of (numbers_from (64 * m) both)
    p ≡ (set_of (numbers_from (64 * f) a) p || set_of (numbers_from (64 * g) b) p)) → IsForm m both
IsForm-united_from m f g a b both form other some others least len h = record {
  trimmed = λ n e. by n e (cases_lt (g + length b) (f + length a));
  in_range = omega (arith, len, least, form.in_range, other.in_range);
}
  where
    by : (n : ℕ) → length both ≡ n + 1 → (g + length b < f + length a) ⊎ (f + length a ≤ g + length b) → HasFrom both n
    by n e (inl own) =
        let last = form.trimmed (length a - 1) (omega (arith, some)) in
        let there = from_in (64 * m) (64 * f + last.0) both (h (64 * f + last.0)
        ∙ or_first (set_of (numbers_from (64 * f) a) (64 * f + last.0))
        (set_of (numbers_from (64 * g) b) (64 * f + last.0)) (in_from (64 * f) last.0 a last.2)) in
        (64 * f + last.0 - 64 * m, omega (arith, last.1, len, e, own, least, some), there.1)
    by n e (inr theirs) =
        let last = other.trimmed (length b - 1) (omega (arith, others)) in
        let there = from_in (64 * m) (64 * g + last.0) both (h (64 * g + last.0)
        ∙ or_last (set_of (numbers_from (64 * f) a) (64 * g + last.0))
        (set_of (numbers_from (64 * g) b) (64 * g + last.0)) (in_from (64 * g) last.0 b last.2)) in
        (64 * g + last.0 - 64 * m, omega (arith, last.1, len, e, theirs, least, others), there.1)

-- ---- words that get the bits of others, from one of them on

or_off : (b c : Bool) → c ≡ false → b ≡ (b || c)
or_off true c e = refl
or_off false c e = sym e

pub united_before : (at p : ℕ) (words more new : List ℕ) → p / 64 < at → get_or new (p / 64) 0 ≡ get_or words (p / 64) 0
    →
    has_bit new p ≡ (has_bit words p || set_of (numbers_from (64 * at) more) p)
unfolding has_bit
united_before at p words more new l h = ap (λ w. is_set w (p % 64)) h
    ∙ or_off (is_set (get_or words (p / 64) 0) (p % 64)) (set_of (numbers_from (64 * at) more) p)
    (below_from (64 * at) p more (omega (arith, l)))

pub united_here : (at p : ℕ) (words more new : List ℕ) → at ≤ p / 64 →
    get_or new (at + (p / 64 - at)) 0 ≡ bit_or (get_or words (at + (p / 64 - at)) 0) (get_or more (p / 64 - at) 0) →
    has_bit new p ≡ (has_bit words p || set_of (numbers_from (64 * at) more) p)
unfolding has_bit
united_here at p words more new l h =
    let place : at + (p / 64 - at) ≡ p / 64 = omega (arith, l) in
    let word : (p - 64 * at) / 64 ≡ p / 64 - at = omega (arith, l) in
    let bit : (p - 64 * at) % 64 ≡ p % 64 = omega (arith, l) in
    ap (λ k. is_set (get_or new k 0) (p % 64)) (sym place) ∙ ap (λ w. is_set w (p % 64)) h
    ∙ is_set-or (get_or words (at + (p / 64 - at)) 0) (get_or more (p / 64 - at) 0) (p % 64)
    ∙ ap (λ k. is_set (get_or words k 0) (p % 64) || is_set (get_or more (p / 64 - at) 0) (p % 64)) place
    ∙ ap (λ b. is_set (get_or words (p / 64) 0) (p % 64) || b)
    (sym (above_from (64 * at) p more (omega (arith, l)) ∙ rw (word, bit) refl))

pub united_past : (at p : ℕ) (words more new : List ℕ) → at ≤ p / 64
    → length more ≤ p / 64 - at → get_or new (p / 64) 0 ≡ get_or words (p / 64) 0 →
    has_bit new p ≡ (has_bit words p || set_of (numbers_from (64 * at) more) p)
unfolding has_bit
united_past at p words more new l k h = ap (λ w. is_set w (p % 64)) h
    ∙ or_off (is_set (get_or words (p / 64) 0) (p % 64)) (set_of (numbers_from (64 * at) more) p)
    (above_from (64 * at) p more (omega (arith, l)) ∙ has_bit-past more (p - 64 * at) (omega (arith, l, k)))

-- one more number, above all others
pub numbers_from-push : (n m number : ℕ) (a b : List ℕ)
    → ((p : ℕ) → set_of (numbers_from n b) p ≡ (set_of (numbers_from m a) p || (number == p))) →
    IsBelow number (set_of (numbers_from m a)) → numbers_from n b ≡ numbers_from m a ++ number ∷ []
numbers_from-push n m number a b h below =
    same_increasing (numbers_from n b) (numbers_from m a ++ number ∷ []) (increasing-numbers_from n b)
    (increasing-push (numbers_from m a) number (increasing-numbers_from m a) below)
    (λ p. h p ∙ sym (list_any-append (λ q. q == p) (numbers_from m a) (number ∷ [])
    ∙ ap (λ c. set_of (numbers_from m a) p || c) (or_none (number == p))))
