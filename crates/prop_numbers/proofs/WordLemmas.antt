-- Sets of numbers as words of bits: what is in them, and in which order.
use Rattle.std.proofs.Common.{◌≡◌, ◌≢◌, ℕ, zero, suc, ◌+◌, ◌-◌, ◌*◌, ◌/◌, ◌%◌, ◌^◌, ◌<◌, ◌≤◌, Bool, true, false, not}
use Rattle.std.proofs.Common.{◌||◌, ◌&&◌, ◌==◌, List, [], ◌∷◌, ◌++◌, length, take, drop, replicate, get_or, refl, sym}
use Rattle.std.proofs.Common.{ap, subst, ◌∙◌, arith, inl, inr, ◌⊎◌, nat_lt, nat_le, nat_eq, bit_and, bit_or, Result, Ok}
use Rattle.std.proofs.Common.{Err, IfOk}
use Rattle.std.specs.Int.{bit_not, w64, trailing_zeros, leading_zeros}
use Rattle.std.specs.List.{range_with_len, refill, AllByRecursion, AppendsClonesOf}
use Rattle.std.specs.List.Sorted.{IsStrictlyIncreasing}
use Rattle.std.proofs.Math.ListN.{set, length-set}
use Rattle.std.proofs.lemmas.Bool.{cases_eq, cases_lt}
use Rattle.std.proofs.lemmas.Bool.Decides.{nat_tests, eqb_tells}
use Rattle.std.proofs.lemmas.Grind.{get_or-set_at, common_steps}
use Rattle.std.proofs.lemmas.List.{get_or_past, get_or-set_other, get_or-take, length-take, take-append-le, take_all}
use Rattle.std.proofs.lemmas.List.FromFn.{length-range_with_len, get_or-range_with_len}
use Rattle.std.proofs.lemmas.List.Kept.{IsStrictlyIncreasing-filter}
use Rattle.std.proofs.lemmas.List.Sums.{length-filter, count_by-le-length}
use Rattle.std.proofs.lemmas.Nat.Bits.{bit_at-zero}
use Rattle.prop_numbers.specs.Sets.{set_of, IsBelow}
use Rattle.prop_numbers.specs.Words.{is_set, has_bit, numbers_from}
use Rattle.prop_numbers.specs.inner.Words.{numbers_of, HaveSameBits, HasFrom, IsTrimmed}
use Rattle.prop_numbers.proofs.BitLemmas.{tested, is_set-or, is_set-and, is_set-not, is_set-pow, is_set-zero}
use Rattle.prop_numbers.proofs.BitLemmas.{is_set-ones, is_set-cleared, pow_fits, lowest, Highest, highest}
use Rattle.prop_numbers.proofs.SetLemmas.{set_of-filter}
use Rattle.prop_numbers.proofs.MergeLemmas.{Rising, same_increasing, all_above, rising_push, rising_from_increasing}
use Rattle.prop_numbers.proofs.MergeLemmas.{increasing_from_rising}

set_of-range : (n m p : ℕ) → set_of (range_with_len n m) p ≡ (nat_le n p && nat_lt p (n + m))
set_of-range n zero p = grind (arith, nat_tests)
set_of-range n (suc m) p =
    let rest = set_of-range (n + 1) m p in
    rw rest (grind (arith, nat_tests))

increasing-range : (n m : ℕ) → IsStrictlyIncreasing (range_with_len n m)
increasing-range n m k l =
    let len = length-range_with_len n m in
    omega (
      arith,
      get_or-range_with_len n m k 0 (omega (arith, l, len)),
      get_or-range_with_len n m (k + 1) 0 (omega (arith, l, len)),
    )

-- the numbers are in order
pub increasing-numbers_from : (n : ℕ) (words : List ℕ) → IsStrictlyIncreasing (numbers_from n words)
unfolding numbers_from
increasing-numbers_from n words = IsStrictlyIncreasing-filter (λ p. has_bit words (p - n))
    (range_with_len n (64 * length words))
    (increasing-range n (64 * length words))

-- there are at most as many as there are bits
pub few_numbers : (n : ℕ) (words : List ℕ) → length words ≤ 1024 → length (numbers_from n words) ≤ 65536
unfolding numbers_from
few_numbers n words few =
    let passes = λ (p : ℕ). has_bit words (p - n) in
    let range = range_with_len n (64 * length words) in
    let all = count_by-le-length passes range in
    let kept = length-filter passes range in
    let count = length-range_with_len n (64 * length words) in
    omega (arith, all, kept, count, few)

-- no bit is past the last word
pub has_bit-past : (words : List ℕ) (p : ℕ) → 64 * length words ≤ p → has_bit words p ≡ false
unfolding has_bit is_set
has_bit-past words p l =
    let none : get_or words (p / 64) 0 ≡ 0 = get_or_past words (p / 64) 0 (omega (arith, l)) in
    rw none (rw (bit_at-zero (p % 64)) refl)

in_range : (words : List ℕ) (n p : ℕ)
    → ((nat_le n p && nat_lt p (n + 64 * length words)) && has_bit words (p - n))
    ≡ (nat_le n p && has_bit words (p - n))
in_range words n p = by (nat_le n p) refl (nat_lt p (n + 64 * length words)) refl
  where
    by : (b : Bool) → nat_le n p ≡ b → (c : Bool) → nat_lt p (n + 64 * length words) ≡ c
        → ((b && c) && has_bit words (p - n)) ≡ (b && has_bit words (p - n))
    by false e c f = refl
    by true e true f = refl
    by true e false f = sym (has_bit-past words (p - n) (grind (arith, nat_tests)))

-- what is among the numbers
pub set_of-numbers_from : (n : ℕ) (words : List ℕ) (p : ℕ)
    → set_of (numbers_from n words) p ≡ (nat_le n p && has_bit words (p - n))
unfolding numbers_from
set_of-numbers_from n words p =
    set_of-filter (λ p. has_bit words (p - n)) (range_with_len n (64 * length words)) p
    ∙ ap (λ b. b && has_bit words (p - n)) (set_of-range n (64 * length words) p)
    ∙ in_range words n p

pub set_of-numbers_of : (words : List ℕ) (p : ℕ) → set_of (numbers_of words) p ≡ has_bit words p
set_of-numbers_of words p =
    let all : nat_le 0 p ≡ true = grind (arith, nat_tests) in
    let whole : p - 0 ≡ p = omega arith in
    set_of-numbers_from 0 words p ∙ rw (all, whole) refl

-- ---- the numbers by what is among them

pub numbers_from-nil : (n : ℕ) → numbers_from n [] ≡ []
unfolding numbers_from
numbers_from-nil n = refl

pub numbers_from-nothing : (n : ℕ) (words : List ℕ) → length words ≡ 0 → numbers_from n words ≡ []
numbers_from-nothing n [] e = numbers_from-nil n
numbers_from-nothing n (w ∷ ws) e = absurd (omega (arith, e))

-- ---- what changes of words do

pub has_bit-tested : (words : List ℕ) (p word : ℕ) → word ≡ get_or words (p / 64) 0
    → not (nat_eq (bit_and word (2 ^ (p % 64))) 0) ≡ has_bit words p
unfolding has_bit
has_bit-tested words p word e = tested word (p % 64) ∙ ap (λ w. is_set w (p % 64)) e

pub has_bit-same : (a b : List ℕ) → HaveSameBits a b → (p : ℕ) → has_bit a p ≡ has_bit b p
unfolding has_bit
has_bit-same a b h p = ap (λ w. is_set w (p % 64)) (h (p / 64))

same_place : (n p : ℕ) → p / 64 ≡ n / 64 → (n % 64 == p % 64) ≡ (n == p)
same_place n p e = grind (arith, nat_tests)

other_place : (n p : ℕ) → p / 64 ≢ n / 64 → (n == p) ≡ false
other_place n p e = grind (arith, nat_tests)

-- a word that is written
has_bit-set : (words : List ℕ) (place word p : ℕ) → place < length words → p / 64 ≡ place
    → has_bit (set words place word) p ≡ is_set word (p % 64)
unfolding has_bit
has_bit-set words place word p l e = ap (λ w. is_set w (p % 64)) (get_or-set_at words place (p / 64) word 0 e l)

has_bit-kept : (words : List ℕ) (place word p : ℕ) → p / 64 ≢ place → has_bit (set words place word) p ≡ has_bit words p
unfolding has_bit
has_bit-kept words place word p e = ap (λ w. is_set w (p % 64)) (get_or-set_other words place (p / 64) word 0 e)

at_word : (words : List ℕ) (place p : ℕ) → p / 64 ≡ place → is_set (get_or words place 0) (p % 64) ≡ has_bit words p
unfolding has_bit
at_word words place p e = ap (λ k. is_set (get_or words k 0) (p % 64)) (sym e)

or_off : (b c : Bool) → c ≡ false → b ≡ (b || c)
or_off true c e = refl
or_off false c e = sym e

and_on : (b c : Bool) → c ≡ true → b ≡ (b && c)
and_on true c e = sym e
and_on false c e = refl

-- one more number
pub has_bit-added : (words : List ℕ) (n p : ℕ) → n / 64 < length words →
    has_bit (set words (n / 64) (bit_or (get_or words (n / 64) 0) (2 ^ (n % 64)))) p ≡ (has_bit words p || (n == p))
has_bit-added words n p l = elim (cases_eq (p / 64) (n / 64)) [
  | inl here ↦ (
      has_bit-set words (n / 64) (bit_or (get_or words (n / 64) 0) (2 ^ (n % 64))) p l here
      ∙ is_set-or (get_or words (n / 64) 0) (2 ^ (n % 64)) (p % 64)
      ∙ ap (λ b. b || is_set (2 ^ (n % 64)) (p % 64)) (at_word words (n / 64) p here)
      ∙ ap (λ b. has_bit words p || b) (is_set-pow (n % 64) (p % 64) ∙ same_place n p here))
  | inr there ↦ has_bit-kept words (n / 64) (bit_or (get_or words (n / 64) 0) (2 ^ (n % 64))) p there
      ∙ or_off (has_bit words p) (n == p) (other_place n p there)
]

-- one number less
pub has_bit-cleared : (words : List ℕ) (n p : ℕ) → n / 64 < length words →
    has_bit (set words (n / 64) (bit_and (get_or words (n / 64) 0) (bit_not w64 (2 ^ (n % 64)))))
    p ≡ (has_bit words p && not (n == p))
has_bit-cleared words n p l = elim (cases_eq (p / 64) (n / 64)) [
  | inl here ↦ (
      has_bit-set words (n / 64) (bit_and (get_or words (n / 64) 0) (bit_not w64 (2 ^ (n % 64)))) p l here
      ∙ is_set-and (get_or words (n / 64) 0) (bit_not w64 (2 ^ (n % 64))) (p % 64)
      ∙ ap (λ b. b && is_set (bit_not w64 (2 ^ (n % 64))) (p % 64)) (at_word words (n / 64) p here)
      ∙ ap (λ b. has_bit words p && b) (is_set-not (2 ^ (n % 64)) (p % 64) (pow_fits (n % 64) (omega arith))
      (omega arith)
      ∙ ap not (is_set-pow (n % 64) (p % 64) ∙ same_place n p here)))
  | inr there ↦ has_bit-kept words (n / 64) (bit_and (get_or words (n / 64) 0) (bit_not w64 (2 ^ (n % 64)))) p there
      ∙ and_on (has_bit words p) (not (n == p)) (ap not (other_place n p there))
]

-- a number past all words
pub has_bit-not_there : (words : List ℕ) (n p : ℕ) → length words ≤ n / 64
    → has_bit words p ≡ (has_bit words p && not (n == p))
has_bit-not_there words n p l = elim (cases_lt (p / 64) (length words)) [
  | inl below ↦ (
      let apart : (n == p) ≡ false = grind (arith, nat_tests) in
      and_on (has_bit words p) (not (n == p)) (ap not apart))
  | inr above ↦ (
      let none = has_bit-past words p (omega (arith, above)) in
      rw none refl)
]

-- words that are written in place
pub refilled : (words written : List ℕ) → length written ≡ length words → refill (length words) words written ≡ written
refilled words written e = take-append-le (length words) written (drop (length written) words) (omega (arith, e))
    ∙ take_all (length words) written (omega (arith, e))

-- the words up to a length, past which there are no bits
pub has_bit-trimmed : (words : List ℕ) (len : ℕ) → ((k : ℕ) → len ≤ k → get_or words k 0 ≡ 0) → (p : ℕ)
    → has_bit (take len words) p ≡ has_bit words p
has_bit-trimmed words len h p = has_bit-same (take len words) words (λ k. elim (cases_lt k len) [
  | inl below ↦ get_or-take len words k 0 below
  | inr above ↦ get_or_past (take len words) k 0 (omega (arith, above, length-take len words)) ∙ sym (h k above)
]) p

-- ---- words whose last has a bit

-- a bit that is set is in one of the words
pub within_words : (words : List ℕ) (p : ℕ) → has_bit words p ≡ true → p / 64 < length words
within_words words p h = elim (cases_lt (p / 64) (length words)) [
  | inl below ↦ below
  | inr above ↦ cc (h, has_bit-past words p (omega (arith, above)))
]

-- the number of a bit of a word
pub is_number : (words : List ℕ) (n i : ℕ) → i < 64 → has_bit words (64 * n + i) ≡ is_set (get_or words n 0) i
unfolding has_bit
is_number words n i l =
    let word : (64 * n + i) / 64 ≡ n = omega (arith, l) in
    let bit : (64 * n + i) % 64 ≡ i = omega (arith, l) in
    rw (word, bit) refl

at_bit : (words : List ℕ) (n i : ℕ) → i < 64 → is_set (get_or words n 0) i ≡ true → HasFrom words n
at_bit words n i l h = (64 * n + i, omega arith, is_number words n i l ∙ h)

-- a word that isn't zero has a bit
pub HasFrom-word : (words : List ℕ) (n : ℕ) → get_or words n 0 < 2 ^ 64 → get_or words n 0 ≢ 0 → HasFrom words n
HasFrom-word words n fits some =
    let first = lowest (get_or words n 0) some fits in
    at_bit words n (trailing_zeros w64 (get_or words n 0)) first.0 first.1

-- only words without a last have no numbers
pub no_words : (words : List ℕ) → IsTrimmed words → numbers_of words ≡ [] → words ≡ []
no_words [] trimmed e = refl
no_words (w ∷ ws) trimmed e =
    let some = trimmed (length ws) (omega arith) in
    cc (some.2, sym (set_of-numbers_of (w ∷ ws) some.0) ∙ ap (λ ns. set_of ns some.0) e)

-- ---- the numbers one after another

has_bit-first : (word : ℕ) (words : List ℕ) (q : ℕ) → q < 64 → has_bit (word ∷ words) q ≡ is_set word q
unfolding has_bit
has_bit-first word words q l =
    let place : q / 64 ≡ 0 = omega (arith, l) in
    let bit : q % 64 ≡ q = omega (arith, l) in
    rw (place, bit) refl

has_bit-later : (word : ℕ) (words : List ℕ) (q : ℕ) → 64 ≤ q → has_bit (word ∷ words) q ≡ has_bit words (q - 64)
unfolding has_bit
has_bit-later word words q l =
    let place : q / 64 ≡ suc ((q - 64) / 64) = omega (arith, l) in
    let bit : q % 64 ≡ (q - 64) % 64 = omega (arith, l) in
    rw (place, bit) refl

pub from_below : (n p : ℕ) (b : Bool) → p < n → (nat_le n p && b) ≡ false
from_below n p b l = let out : nat_le n p ≡ false = grind (arith, nat_tests) in rw out refl

pub from_above : (n p : ℕ) (b : Bool) → n ≤ p → (nat_le n p && b) ≡ b
from_above n p b l = let in_it : nat_le n p ≡ true = grind (arith, nat_tests) in rw in_it refl

numbers_from-is : (n : ℕ) (words ns : List ℕ) → IsStrictlyIncreasing ns
    → ((p : ℕ) → (nat_le n p && has_bit words (p - n)) ≡ set_of ns p) →
    numbers_from n words ≡ ns
numbers_from-is n words ns up h = same_increasing (numbers_from n words) ns (increasing-numbers_from n words) up
    (λ p. set_of-numbers_from n words p ∙ h p)

-- a word without bits is passed by
pub numbers_from-skip : (n m : ℕ) (words : List ℕ) → m ≡ n + 64 → numbers_from n (0 ∷ words) ≡ numbers_from m words
numbers_from-skip n m words e =
    numbers_from-is n (0 ∷ words) (numbers_from m words) (increasing-numbers_from m words)
    (λ p. by p (cases_lt p n) (cases_lt p m) ∙ sym (set_of-numbers_from m words p))
  where
    by : (p : ℕ) → (p < n) ⊎ (n ≤ p) → (p < m) ⊎ (m ≤ p)
        → (nat_le n p && has_bit (0 ∷ words) (p - n)) ≡ (nat_le m p && has_bit words (p - m))
    by p (inl before) at = from_below n p (has_bit (0 ∷ words) (p - n)) before
        ∙ sym (from_below m p (has_bit words (p - m)) (omega (arith, before, e)))
    by p (inr past) (inl inside) =
        from_above n p (has_bit (0 ∷ words) (p - n)) past
        ∙ has_bit-first 0 words (p - n) (omega (arith, inside, past, e)) ∙ is_set-zero (p - n)
        ∙ sym (from_below m p (has_bit words (p - m)) inside)
    by p (inr past) (inr after) =
        let rest : (p - n) - 64 ≡ p - m = omega (arith, after, e) in
        from_above n p (has_bit (0 ∷ words) (p - n)) past ∙ has_bit-later 0 words (p - n) (omega (arith, after, e))
        ∙ ap (has_bit words) rest
        ∙ sym (from_above m p (has_bit words (p - m)) after)

and_first : (b c : Bool) → (b && c) ≡ true → b ≡ true
and_first true c h = refl
and_first false c h = cc

and_second : (b c : Bool) → (b && c) ≡ true → c ≡ true
and_second true c h = h
and_second false c h = cc

same_number : (n p : ℕ) → (n == p) ≡ true → n ≡ p
same_number n p h = elim (eqb_tells n p) [ inl e ↦ e.1 | inr e ↦ cc (e.0, h) ]

-- no number is left
pub numbers_from-none : (n word : ℕ) (words : List ℕ) → word ≡ 0 → length words ≡ 0 → numbers_from n (word ∷ words) ≡ []
numbers_from-none n word [] e l = ap (λ w. numbers_from n (w ∷ [])) e ∙ numbers_from-skip n (n + 64) [] refl
    ∙ numbers_from-nil (n + 64)
numbers_from-none n word (w ∷ ws) e l = absurd (omega (arith, l))

or_drop : (b c d : Bool) → b ≡ (c && not d) → (d ≡ true → c ≡ true) → c ≡ (d || b)
or_drop b c true e h = h refl
or_drop b true false e h = sym e
or_drop b false false e h = sym e

-- the lowest bit of a word gives the first number
pub numbers_from-first : (n word t : ℕ) (words : List ℕ) → t ≡ trailing_zeros w64 word → word ≢ 0 → word < 2 ^ 64 →
    numbers_from n (word ∷ words) ≡ (n + t) ∷ numbers_from n (bit_and word (bit_not w64 (1 * 2 ^ t % 2 ^ 64)) ∷ words)
numbers_from-first n word t words is some fits =
    numbers_from-is n (word ∷ words) ((n + t) ∷ after) (increasing_from_rising ((n + t) ∷ after) rising) same
  where
    cleared : ℕ
    cleared = bit_and word (bit_not w64 (1 * 2 ^ t % 2 ^ 64))

    after : List ℕ
    after = numbers_from n (cleared ∷ words)

    found : (trailing_zeros w64 word < 64) × (is_set word (trailing_zeros w64 word) ≡ true)
        × ((i : ℕ) → i < trailing_zeros w64 word → is_set word i ≡ false)
    found = lowest word some fits

    within : t < 64
    within = omega (arith, is, found.0)

    left : (i : ℕ) → i < 64 → is_set cleared i ≡ true → t < i
    left i l h = elim (cases_lt i t) [
      | inl below ↦ cc (
        found.2 i (omega (arith, below, is)),
        and_first (is_set word i) (not (t == i)) (sym (is_set-cleared word t i within l) ∙ h),
      )
      | inr above ↦ (let apart = and_second (is_set word i) (not (t == i)) (sym (is_set-cleared word t i within l) ∙ h)
          in grind (arith, nat_tests))
    ]

    higher : (p : ℕ) → set_of after p ≡ true → n + t < p
    higher p h = by (cases_lt p n) (cases_lt (p - n) 64) (sym (set_of-numbers_from n (cleared ∷ words) p) ∙ h)
      where
        by : (p < n) ⊎ (n ≤ p) → (p - n < 64) ⊎ (64 ≤ p - n) → (nat_le n p && has_bit (cleared ∷ words) (p - n)) ≡ true
            → n + t < p
        by (inl before) at k = cc (k, from_below n p (has_bit (cleared ∷ words) (p - n)) before)
        by (inr past) (inr later) k = omega (arith, later, within)
        by (inr past) (inl here) k =
            omega (
              arith,
              past,
              left (p - n) here (sym (has_bit-first cleared words (p - n) here)
                  ∙ sym (from_above n p (has_bit (cleared ∷ words) (p - n)) past) ∙ k),
            )

    lowest_here : (i : ℕ) → (t == i) ≡ true → is_set word i ≡ true
    lowest_here i e =
        let at : trailing_zeros w64 word ≡ i = sym is ∙ same_number t i e in
        subst (λ k. is_set word k ≡ true) at found.1

    rising : Rising ((n + t) ∷ after)
    rising = (
      all_above (n + t) after higher,
      rising_from_increasing after (increasing-numbers_from n (cleared ∷ words)),
    )

    same : (p : ℕ) → (nat_le n p && has_bit (word ∷ words) (p - n)) ≡ ((n + t == p) || set_of after p)
    same p = by (cases_lt p n) (cases_lt (p - n) 64)
        ∙ ap (λ b. (n + t == p) || b) (sym (set_of-numbers_from n (cleared ∷ words) p))
      where
        by : (p < n) ⊎ (n ≤ p) → (p - n < 64) ⊎ (64 ≤ p - n)
            → (nat_le n p && has_bit (word ∷ words) (p - n)) ≡ ((n + t == p) ||
            (nat_le n p && has_bit (cleared ∷ words) (p - n)))
        by (inl before) at =
            let apart : (n + t == p) ≡ false = grind (arith, nat_tests) in
            from_below n p (has_bit (word ∷ words) (p - n)) before
            ∙ sym (rw apart (from_below n p (has_bit (cleared ∷ words) (p - n)) before))
        by (inr past) (inr later) =
            let apart : (n + t == p) ≡ false = grind (arith, nat_tests, within) in
            rw apart (ap (λ b. nat_le n p && b)
            (has_bit-later word words (p - n) later ∙ sym (has_bit-later cleared words (p - n) later)))
        by (inr past) (inl here) =
            let number : (n + t == p) ≡ (t == p - n) = grind (arith, nat_tests) in
            from_above n p (has_bit (word ∷ words) (p - n)) past ∙ has_bit-first word words (p - n) here
            ∙ or_drop (is_set cleared (p - n)) (is_set word (p - n)) (t == p - n)
            (is_set-cleared word t (p - n) within here) (lowest_here (p - n))
            ∙ sym (ap (λ b. b || (nat_le n p && has_bit (cleared ∷ words) (p - n))) number
            ∙ ap (λ b. (t == p - n) || b) (from_above n p (has_bit (cleared ∷ words) (p - n)) past
            ∙ has_bit-first cleared words (p - n) here))

-- ---- the numbers below a bound

pub and_false : (b : Bool) → (b && false) ≡ false
and_false true = refl
and_false false = refl

lower_place : (n p : ℕ) → p / 64 ≡ n / 64 → nat_lt (p % 64) (n % 64) ≡ nat_lt p n
lower_place n p e = grind (arith, nat_tests)

-- what is kept of the words below a bound
abbrev pub kept_below : List ℕ → ℕ → List ℕ
kept_below words n = set (take (n / 64 + 1) words) (n / 64)
    (bit_and (get_or (take (n / 64 + 1) words) (n / 64) 0) (2 ^ (n % 64) - 1))

has_bit-front : (words : List ℕ) (m p : ℕ) → p / 64 < m → has_bit (take m words) p ≡ has_bit words p
unfolding has_bit
has_bit-front words m p l = ap (λ w. is_set w (p % 64)) (get_or-take m words (p / 64) 0 l)

pub has_bit-below : (words : List ℕ) (n p : ℕ) → n / 64 < length words
    → has_bit (kept_below words n) p ≡ (has_bit words p && nat_lt p n)
has_bit-below words n p l = by (cases_lt (n / 64) (p / 64)) (cases_eq (p / 64) (n / 64))
  where
    front : List ℕ
    front = take (n / 64 + 1) words

    within : n / 64 < length front
    within = omega (arith, l, length-take (n / 64 + 1) words)

    word : ℕ
    word = bit_and (get_or front (n / 64) 0) (2 ^ (n % 64) - 1)

    by : (n / 64 < p / 64) ⊎ (p / 64 ≤ n / 64) → (p / 64 ≡ n / 64) ⊎ (p / 64 ≢ n / 64)
        → has_bit (kept_below words n) p ≡ (has_bit words p && nat_lt p n)
    by (inl past) at =
        let out : nat_lt p n ≡ false = grind (arith, nat_tests) in
        has_bit-past (kept_below words n) p
        (omega (arith, past, length-take (n / 64 + 1) words, length-set front (n / 64) word))
        ∙ sym (ap (λ b. has_bit words p && b) out ∙ and_false (has_bit words p))
    by (inr low) (inl here) =
        has_bit-set front (n / 64) word p within here
        ∙ is_set-and (get_or front (n / 64) 0) (2 ^ (n % 64) - 1) (p % 64)
        ∙ ap (λ b. b && is_set (2 ^ (n % 64) - 1) (p % 64))
        (at_word front (n / 64) p here ∙ has_bit-front words (n / 64 + 1) p (omega (arith, low)))
        ∙ ap (λ b. has_bit words p && b) (is_set-ones (n % 64) (p % 64) ∙ lower_place n p here)
    by (inr low) (inr there) =
        let in_it : nat_lt p n ≡ true = grind (arith, nat_tests) in
        has_bit-kept front (n / 64) word p there
        ∙ has_bit-front words (n / 64 + 1) p (omega (arith, low))
        ∙ and_on (has_bit words p) (nat_lt p n) in_it

-- all numbers of so few words are below it
pub has_bit-all_below : (words : List ℕ) (n p : ℕ) → length words ≤ n / 64
    → has_bit words p ≡ (has_bit words p && nat_lt p n)
has_bit-all_below words n p l = elim (cases_lt p n) [
  | inl below ↦ and_on (has_bit words p) (nat_lt p n) (grind (arith, nat_tests))
  | inr above ↦ (
      let none = has_bit-past words p (omega (arith, l, above)) in
      rw none refl)
]

-- ---- one above the last number

pub record IsEnd (words : List ℕ) (end : ℕ) : Type 0 where
  pub above : (p : ℕ) → has_bit words p ≡ true → p < end
  pub last : (p : ℕ) → end ≡ p + 1 → has_bit words p ≡ true

last_word : (words : List ℕ) (n : ℕ) → IsTrimmed words → length words ≡ n + 1 → get_or words n 0 ≢ 0
last_word words n trimmed len none =
    let some = trimmed n len in
    let place : some.0 / 64 ≡ n = omega (arith, some.1, len, within_words words some.0 some.2) in
    cc (some.2, sym (at_word words n some.0 place) ∙ ap (λ w. is_set w (some.0 % 64)) none ∙ is_set-zero (some.0 % 64))

pub end_is : (words : List ℕ) (n word : ℕ) → IsTrimmed words → length words ≡ n + 1 → word ≡ get_or words n 0
    → word < 2 ^ 64 →
    IsEnd words (64 * length words - leading_zeros w64 word)
end_is words n word trimmed len is fits = record { above = above; last = last }
  where
    some : word ≢ 0
    some none = last_word words n trimmed len (sym is ∙ none)

    top : (j : ℕ) × (leading_zeros w64 word + suc j ≡ 64) × Highest word j
    top = highest word (omega (arith, some)) fits

    above : (p : ℕ) → has_bit words p ≡ true → p < 64 * length words - leading_zeros w64 word
    above p h = elim (cases_eq (p / 64) n) [
      | inl here ↦ omega (
        arith,
        len,
        here,
        top.1,
        top.2.last (p % 64) (ap (λ w. is_set w (p % 64)) is ∙ at_word words n p here ∙ h),
      )
      | inr there ↦ omega (arith, len, there, top.1, within_words words p h)
    ]

    last : (p : ℕ) → 64 * length words - leading_zeros w64 word ≡ p + 1 → has_bit words p ≡ true
    last p e =
        let at : 64 * n + top.0 ≡ p = omega (arith, len, top.1, e) in
        subst (λ q. has_bit words q ≡ true)
        at (is_number words n top.0 (omega (arith, top.1)) ∙ ap (λ w. is_set w top.0) (sym is) ∙ top.2.on)

-- ---- one more number

pub or_none : (b : Bool) → (b || false) ≡ b
or_none true = refl
or_none false = refl

pub increasing-push : (ns : List ℕ) (n : ℕ) → IsStrictlyIncreasing ns → IsBelow n (set_of ns)
    → IsStrictlyIncreasing (ns ++ n ∷ [])
increasing-push ns n up below = increasing_from_rising (ns ++ n ∷ [])
    (rising_push ns n (rising_from_increasing ns up) below)

-- ---- one of two tests

pub or_first : (b c : Bool) → b ≡ true → (b || c) ≡ true
or_first true c e = refl
or_first false c e = cc

pub or_last : (b c : Bool) → c ≡ true → (b || c) ≡ true
or_last true c e = refl
or_last false c e = e

-- what is written below a bound
pub kept_written : (words front lent : List ℕ) (place mask n : ℕ) → front ≡ take (place + 1) words → lent ≡ front
    → place ≡ n / 64 → mask ≡ 2 ^ (n % 64) →
    refill (length front) front (set lent place (bit_and (get_or lent place 0) (mask - 1))) ≡ kept_below words n
kept_written words front lent place mask n is same at bit =
    rw (same, is, at, bit) (refilled (take (n / 64 + 1) words) (kept_below words n)
    (length-set (take (n / 64 + 1) words) (n / 64) (bit_and (get_or
    (take (n / 64 + 1) words) (n / 64) 0) (2 ^ (n % 64) - 1))))

-- further words without bits
zeros : (ys : List ℕ) (k : ℕ) → AllByRecursion (λ y. (y ≡ 0) ⊎ (y ≡ 0)) ys → get_or ys k 0 ≡ 0
zeros [] k h = refl
zeros (y ∷ ys) zero h = elim h.0 [ inl e ↦ e | inr e ↦ e ]
zeros (y ∷ ys) (suc k) h = zeros ys k h.1

padded : (words ys : List ℕ) (k : ℕ) → AllByRecursion (λ y. (y ≡ 0) ⊎ (y ≡ 0)) ys
    → get_or (words ++ ys) k 0 ≡ get_or words k 0
padded [] ys k h = zeros ys k h
padded (w ∷ ws) ys zero h = refl
padded (w ∷ ws) ys (suc k) h = padded ws ys k h

pub has_bit-grown : (words grown : List ℕ) (len : ℕ) → length words ≤ len
    → AppendsClonesOf (λ x y. y ≡ x) (take len words) grown 0 → (p : ℕ) →
    has_bit grown p ≡ has_bit words p
has_bit-grown words grown len l h p =
    let whole : take len words ≡ words = grind (arith, common_steps) in
    has_bit-same grown words (λ k. ap (λ ws. get_or ws k 0) h.1 ∙ padded (take len words) h.0 k h.2
    ∙ ap (λ ws. get_or ws k 0) whole) p

same_word : (n k w : ℕ) → get_or (replicate n w) k w ≡ w
same_word zero k w = refl
same_word (suc n) zero w = refl
same_word (suc n) (suc k) w = same_word n k w

pub has_bit-blank : (n p : ℕ) → has_bit (replicate n 0) p ≡ false
unfolding has_bit
has_bit-blank n p = ap (λ w. is_set w (p % 64)) (same_word n (p / 64) 0) ∙ is_set-zero (p % 64)

pub if_ok : {T E : Type 0} {P : T → Type 0} {Q : T → Type 0} (r : Result T E) → ((x : T) → P x → Q x) → IfOk r P
    → IfOk r Q
if_ok (Ok x) f h = f x h
if_ok (Err e) f h = tt

-- words that are cut after the last that has a bit
pub IsTrimmed-cut : (words cut : List ℕ) (len : ℕ) → cut ≡ take len words → len ≤ length words
    → ((k : ℕ) → len ≤ k → get_or words k 0 ≡ 0) →
    ((n : ℕ) → len ≡ n + 1 → HasFrom words n) → IsTrimmed cut
IsTrimmed-cut words cut len is within rest last n e =
    let some = last n (omega (arith, e, within, ap length is, length-take len words)) in
    (some.0, some.1, ap (λ ws. has_bit ws some.0) is ∙ has_bit-trimmed words len rest some.0 ∙ some.2)
