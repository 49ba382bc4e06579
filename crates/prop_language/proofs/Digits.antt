-- Numbers, a digit at a time.
use Rattle.std.proofs.Common.{◌≡◌, ℕ, ◌+◌, ◌-◌, ◌*◌, ◌<◌, ◌≤◌, List, [], ◌∷◌, length, Bool, true, false, cond, refl}
use Rattle.std.proofs.Common.{sym, ◌∙◌, ap, arith, inl, inr, ℤ, ◌≤ℤ◌, pos, negsuc, FitsSigned, w64, subst, suc}
use Rattle.std.specs.Prelude.{Option, Some, None, int_le, ◌&&◌, ◌==◌, nat_lt, neg_ℤ, unsigned_abs, drop}
use Rattle.std.specs.Char.{digit_value}
use Rattle.std.specs.Str.{all_ascii_digits}
use Rattle.std.specs.Str.Parse.{digits_value, digits_value_after}
use Rattle.std.specs.Bool.{then_some}
use Rattle.std.proofs.lemmas.Int.{ints}
use Rattle.std.specs.Option.{option_map, option_and_then}
use Rattle.std.proofs.lemmas.Bool.Decides.{leb_tells, nat_tests}
use Rattle.prop_language.specs.Names.{whole_number, number_in}
use Rattle.prop_language.specs.inner.Digits.{is_digit, number_after, digits_number, number_read, number_read_in}
use Rattle.prop_language.specs.inner.Parts.{up_to, number_up_to}

pub of_some_digits : (most : ℕ) (digits : List ℕ) → 0 < length digits
    → number_up_to most digits ≡ option_and_then (up_to most) (number_after 0 digits)
of_some_digits most [] h = absurd (omega arith)
of_some_digits most (b ∷ digits) h = refl

one : (digit : Bool) (most n : ℕ) (digits : List ℕ) → option_and_then (up_to most) (number_after n digits) ≡ None
    → option_and_then (up_to most) (cond digit (number_after n digits) None) ≡ None
one true most n digits h = h
one false most n digits h = refl

-- past the largest there is no way back
over : (most n : ℕ) (digits : List ℕ) → most < n → option_and_then (up_to most) (number_after n digits) ≡ None
over most n [] h = elim (leb_tells n most) [
  | inl p ↦ absurd (omega (arith, p.1))
  | inr p ↦ rw p.0 refl
]
over most n (b ∷ digits) h = one (is_digit b) most (n * 10 + (b - 48)) digits
    (over most (n * 10 + (b - 48)) digits (omega arith))

-- a number that passes the largest with this digit
pub too_large : (most n byte : ℕ) (digits rest : List ℕ) → number_after n (byte ∷ rest) ≡ number_after 0 digits
    → 0 < length digits → most < n * 10 + (byte - 48) → number_up_to most digits ≡ None
too_large most n byte digits rest e some h =
    of_some_digits most digits some ∙ ap (option_and_then (up_to most)) (sym e)
    ∙ one (is_digit byte) most (n * 10 + (byte - 48)) rest (over most (n * 10 + (byte - 48)) rest h)

-- a number up to the largest
pub within : (most n : ℕ) (digits : List ℕ) → Some n ≡ number_after 0 digits → 0 < length digits → n ≤ most
    → Some n ≡ number_up_to most digits
within most n digits e some h = elim (leb_tells n most) [
  | inl p ↦ sym (of_some_digits most digits some ∙ ap (option_and_then (up_to most)) (sym e) ∙ rw p.0 refl)
  | inr p ↦ absurd (omega (arith, p.1))
]

-- ---- a narrower range

-- the number, where it is one from low to high
abbrev pub inside : ℤ → ℤ → ℤ → Option ℤ
inside low high z = cond (int_le low z && int_le z high) (Some z) None

pub none_narrower : (min low high max : ℤ) (w : Option ℤ) → None ≡ option_and_then (inside min max) w → min ≤ℤ low
    → high ≤ℤ max → None ≡ option_and_then (inside low high) w
none_narrower min low high max None e f g = refl
none_narrower min low high max (Some z) e f g =
    by (int_le low z) (int_le z high) (int_le min z) (int_le z max) refl refl refl refl e
  where
    by : (p q r s : Bool) → int_le low z ≡ p → int_le z high ≡ q → int_le min z ≡ r → int_le z max ≡ s
        → None ≡ cond (r && s) (Some z) None → None ≡ cond (p && q) (Some z) None
    by false q r s a b c d h = refl
    by true false r s a b c d h = refl
    by true true false s a b c d h = absurd (omega (arith, ints))
    by true true true false a b c d h = absurd (omega (arith, ints))
    by true true true true a b c d h = cc

whole : (min max n : ℤ) (w : Option ℤ) → Some n ≡ option_and_then (inside min max) w → w ≡ Some n
whole min max n None e = cc
whole min max n (Some z) e = by (int_le min z && int_le z max) e
  where
    by : (b : Bool) → Some n ≡ cond b (Some z) None → Some z ≡ Some n
    by true h = sym h
    by false h = cc

at_most : (a b : ℤ) → int_le a b ≡ true → a ≤ℤ b
at_most a b h = omega (arith, ints)

fits : (z : ℤ) → negsuc 9223372036854775807 ≤ℤ z → z ≤ℤ pos 9223372036854775807 → FitsSigned w64 z
fits (pos k) low high = record { sfits = omega (arith, ints) }
fits (negsuc k) low high = record { sfits = omega (arith, ints) }

pub in_a_word : (n : ℤ) (w : Option ℤ)
    → Some n ≡ option_and_then (inside (negsuc 9223372036854775807) (pos 9223372036854775807)) w → FitsSigned w64 n
in_a_word n None e = cc
in_a_word n (Some z) e = by (int_le (negsuc 9223372036854775807) z) (int_le z (pos 9223372036854775807)) refl refl e
  where
    by : (p q : Bool) → int_le (negsuc 9223372036854775807) z ≡ p → int_le z (pos 9223372036854775807) ≡ q
        → Some n ≡ cond (p && q) (Some z) None → FitsSigned w64 n
    by false q f g h = cc
    by true false f g h = cc
    by true true f g h =
        let same : z ≡ n = cc in
        subst (λ z. FitsSigned w64 z) same
        (fits z (at_most (negsuc 9223372036854775807) z f) (at_most z (pos 9223372036854775807) g))

kept : (b : Bool) (n : ℤ) → then_some b n ≡ cond b (Some n) None
kept true n = refl
kept false n = refl

pub some_narrower : (min low high max n : ℤ) (w : Option ℤ) (b : Bool) → Some n ≡ option_and_then (inside min max) w
    → b ≡ (int_le low n && int_le n high) → then_some b n ≡ option_and_then (inside low high) w
some_narrower min low high max n w b e f =
    kept b n ∙ ap (λ b. cond b (Some n) None) f ∙ ap (option_and_then (inside low high)) (sym (whole min max n w e))

-- a test of numbers that come back from their bits
pub both_pass : (low low' n n' high high' : ℤ) (b : Bool) → low' ≡ low → n' ≡ n → high' ≡ high → int_le low' n' ≡ true
    → b ≡ int_le n' high' → b ≡ (int_le low n && int_le n high)
both_pass low low' n n' high high' b e f g h k =
    let first : int_le low n ≡ true = ap (λ z. int_le z n) (sym e) ∙ ap (int_le low') (sym f) ∙ h in
    k ∙ ap (λ z. int_le z high') f ∙ ap (int_le n) g ∙ ap (λ p. p && int_le n high) (sym first)

pub first_fails : (low low' n n' high : ℤ) (b : Bool) → low' ≡ low → n' ≡ n → int_le low' n' ≡ false → b ≡ false
    → b ≡ (int_le low n && int_le n high)
first_fails low low' n n' high b e f h k =
    let first : int_le low n ≡ false = ap (λ z. int_le z n) (sym e) ∙ ap (int_le low') (sym f) ∙ h in
    k ∙ ap (λ p. p && int_le n high) (sym first)

-- ---- the words of the standard library

digit_is : (b : ℕ) → is_digit b ≡ true → digit_value b ≡ b - 48
digit_is b h =
    let low : nat_lt b 48 ≡ false = grind (arith, nat_tests) in
    let high : nat_lt b 58 ≡ true = grind (arith, nat_tests) in
    rw (low, high) refl

after_is : (n : ℕ) (digits : List ℕ)
    → number_after n digits ≡ cond (all_ascii_digits digits) (Some (digits_value_after 10 n digits)) None
after_is n [] = refl
after_is n (b ∷ digits) = by (is_digit b) refl (after_is (n * 10 + (b - 48)) digits)
  where
    by : (t : Bool) → is_digit b ≡ t → number_after (n * 10 + (b - 48)) digits ≡ cond (all_ascii_digits digits)
        (Some (digits_value_after 10 (n * 10 + (b - 48)) digits)) None →
        cond t (number_after (n * 10 + (b - 48)) digits) None ≡ cond
        (t && all_ascii_digits digits) (Some (digits_value_after 10 (n * 10 + digit_value b) digits)) None
    by true e more = rw (digit_is b e) more
    by false e more = refl

-- one or more digits
abbrev are_digits : List ℕ → Bool
are_digits digits = nat_lt 0 (length digits) && all_ascii_digits digits

some_digits : (n : ℕ) → nat_lt 0 (suc n) ≡ true
some_digits n = grind (arith, nat_tests)

digits_is : (digits : List ℕ) → digits_number digits ≡ cond (are_digits digits) (Some (digits_value 10 digits)) None
digits_is [] = refl
digits_is (b ∷ digits) = rw (some_digits (length digits)) (after_is 0 (b ∷ digits))

mapped : (f : ℕ → ℤ) (n : ℕ) (t : Bool) → option_map f (cond t (Some n) None) ≡ then_some t (f n)
mapped f n true = refl
mapped f n false = refl

pub number_is : (word : List ℕ) → number_read word ≡ whole_number word
number_is [] = refl
number_is (b ∷ bytes) = by (b == 45) (b == 43) refl
  where
    by : (minus plus : Bool) → (b == 43) ≡ plus →
        cond minus (option_map (λ n. neg_ℤ (pos n)) (digits_number bytes)) (option_map pos (digits_number (b ∷ bytes)))
        ≡ then_some (are_digits (drop (cond minus 1 0) (b ∷ bytes)))
        (cond minus (neg_ℤ (pos (digits_value 10 (cond minus bytes (drop (cond plus 1 0) (b ∷ bytes))))))
        (pos (digits_value 10 (cond minus bytes (drop (cond plus 1 0) (b ∷ bytes))))))
    by true plus p = ap (option_map (λ n. neg_ℤ (pos n))) (digits_is bytes)
        ∙ mapped (λ n. neg_ℤ (pos n)) (digits_value 10 bytes) (are_digits bytes)
    by false false p = ap (option_map pos) (digits_is (b ∷ bytes))
        ∙ mapped pos (digits_value 10 (b ∷ bytes)) (are_digits (b ∷ bytes))
    by false true p =
        let no : is_digit b ≡ false = grind (arith, nat_tests) in
        rw (no, some_digits (length bytes)) refl

-- the same of a number from 0 on
pub natural_from : (r : Option ℕ) (high : ℕ) (word : List ℕ)
    → r ≡ option_map unsigned_abs (number_read_in (pos 0) (pos high) word)
    → r ≡ option_map unsigned_abs (number_in (pos 0) (pos high) word)
natural_from r high word e =
    e ∙ ap (λ w. option_map unsigned_abs (option_and_then (inside (pos 0) (pos high)) w)) (number_is word)
