-- The bits of a number by its words.
use Rattle.std.proofs.Common.{◌≡◌, ◌∙◌, ℕ, zero, suc, ◌+◌, ◌*◌, ◌-◌, ◌^◌, ◌/◌, ◌%◌, ◌<◌, ◌≤◌, List, [], ◌∷◌, length}
use Rattle.std.proofs.Common.{get_or, ap, sym, refl, arith, All, bit_xor, ℤ}
use Rattle.std.specs.Int.{bit_at}
use Rattle.std.specs.Int.Bits.{xor_zero_r}
use Rattle.std.proofs.Math.ListN.{set, length-set}
use Rattle.std.proofs.Math.Pow.{pow-lt}
use Rattle.std.proofs.lemmas.Nat.{pow-add, xor_block, xor_lt}
use Rattle.std.proofs.lemmas.Nat.Bits.{bit_at-zero, bit_at_cat_low, bit_at_cat_high}
use Rattle.std.proofs.lemmas.List.Elements.{All-head, All-tail, All-set}
use Rattle.std.proofs.lemmas.List.Elements.{All-get_or}
use Rattle.prop_trail.specs.inner.Words.{cat, IsWindow}

-- the words are of 64 bits
abbrev pub Fit : List ℕ → Type 0
Fit words = All (λ word. word < 2 ^ 64) words

-- a bit of the number is one of the word at its place
pub cat_bit : (words : List ℕ) (i j : ℕ) → Fit words → j < 64
    → bit_at (cat words) (64 * i + j) ≡ bit_at (get_or words i 0) j
cat_bit [] i j fit l = bit_at-zero (64 * i + j) ∙ sym (bit_at-zero j)
cat_bit (x ∷ xs) zero j fit l =
    let here : 64 * 0 + j ≡ j = omega arith in
    ap (bit_at (cat xs * 2 ^ 64 + x)) here ∙ bit_at_cat_low (cat xs) 64 x j l
cat_bit (x ∷ xs) (suc i) j fit l =
    let head = All-head (λ word. word < 2 ^ 64) x xs fit in
    let rest = All-tail (λ word. word < 2 ^ 64) x xs fit in
    let far : 64 ≤ 64 * suc i + j = omega arith in
    let back : (64 * suc i + j) - 64 ≡ 64 * i + j = omega arith in
    bit_at_cat_high (cat xs) 64 x (64 * suc i + j) head far ∙ ap (bit_at (cat xs)) back ∙ cat_bit xs i j rest l

-- a bit of a word that is turned is that bit of the number
pub cat_turned : (words : List ℕ) (i j : ℕ) → Fit words → i < length words → j < 64
    → cat (set words i (bit_xor (get_or words i 0) (2 ^ j))) ≡ bit_xor (cat words) (2 ^ (64 * i + j))
cat_turned [] i j fit l k = absurd (omega (arith, l))
cat_turned (x ∷ xs) zero j fit l k =
    let head = All-head (λ word. word < 2 ^ 64) x xs fit in
    let small : 2 ^ j < 2 ^ 64 = pow-lt k in
    let block = xor_block 64 (cat xs) 0 x (2 ^ j) head small in
    let here : 64 * 0 + j ≡ j = omega arith in
    let power : 0 * 2 ^ 64 + 2 ^ j ≡ 2 ^ (64 * 0 + j) = omega (arith, ap (λ n. 2 ^ n) here) in
    sym (ap (λ n. n * 2 ^ 64 + bit_xor x (2 ^ j)) (xor_zero_r (cat xs))) ∙ sym block
    ∙ ap (bit_xor (cat xs * 2 ^ 64 + x)) power
cat_turned (x ∷ xs) (suc i) j fit l k =
    let head = All-head (λ word. word < 2 ^ 64) x xs fit in
    let rest = All-tail (λ word. word < 2 ^ 64) x xs fit in
    let within : i < length xs = omega (arith, l) in
    let inner = cat_turned xs i j rest within k in
    let none : 0 < 2 ^ 64 = omega arith in
    let m = 2 ^ (64 * i + j) in
    let block = xor_block 64 (cat xs) m x 0 head none in
    let place : 64 * suc i + j ≡ 64 * i + j + 64 = omega arith in
    let power : m * 2 ^ 64 + 0 ≡ 2 ^ (64 * suc i + j) =
    omega (arith, ap (λ n. 2 ^ n) place, pow-add 2 (64 * i + j) 64) in
    ap (λ n. n * 2 ^ 64 + x) inner ∙ sym (ap (λ n. bit_xor (cat xs) m * 2 ^ 64 + n) (xor_zero_r x)) ∙ sym block
    ∙ ap (bit_xor (cat xs * 2 ^ 64 + x)) power

pub fit_turned : (words : List ℕ) (i j word : ℕ) → Fit words → word < 2 ^ 64 → j < 64
    → Fit (set words i (bit_xor word (2 ^ j)))
fit_turned words i j word fit small k =
    All-set (λ w. w < 2 ^ 64) words i (bit_xor word (2 ^ j)) (xor_lt 64 word (2 ^ j) small (pow-lt k)) fit

pub by_places : (at : ℕ) → at ≡ 64 * (at / 64) + at % 64
by_places at = omega arith

-- the word at a place has 64 bits
pub word_fits : (words : List ℕ) (i : ℕ) → Fit words → i < length words → get_or words i 0 < 2 ^ 64
word_fits words i fit l = All-get_or (λ w. w < 2 ^ 64) words i 0 l fit

-- a bit of the number, by the word at its place
pub bit_by_word : (first last : ℤ) (words : List ℕ) (at : ℕ) → IsWindow first last words
    → bit_at (get_or words (at / 64) 0) (at % 64) ≡ bit_at (cat words) at
bit_by_word first last words at w =
    let l : at % 64 < 64 = omega arith in
    sym (cat_bit words (at / 64) (at % 64) w.fit l) ∙ ap (bit_at (cat words)) (sym (by_places at))

-- the bit of a word is turned
pub window_turned : (first last : ℤ) (words : List ℕ) (at one : ℕ) → IsWindow first last words → at < 256
    → one ≡ 2 ^ (at % 64) → IsWindow first last (set words (at / 64) (bit_xor (get_or words (at / 64) 0) one))
window_turned first last words at one w l e =
    let n = w.count in
    let place : at / 64 < length words = omega (arith, l, n) in
    let small : at % 64 < 64 = omega arith in
    let fits = word_fits words (at / 64) w.fit place in
    rw e (record {
      few = w.few;
      count = length-set words (at / 64) (bit_xor (get_or words (at / 64) 0) (2 ^ (at % 64))) ∙ w.count;
      fit = fit_turned words (at / 64) (at % 64) (get_or words (at / 64) 0) w.fit fits small;
    })

pub bits_turned : (first last : ℤ) (words : List ℕ) (at one : ℕ) → IsWindow first last words → at < 256
    → one ≡ 2 ^ (at % 64)
    → cat (set words (at / 64) (bit_xor (get_or words (at / 64) 0) one)) ≡ bit_xor (cat words) (2 ^ at)
bits_turned first last words at one w l e =
    let n = w.count in
    let place : at / 64 < length words = omega (arith, l, n) in
    let small : at % 64 < 64 = omega arith in
    rw e (cat_turned words (at / 64) (at % 64) w.fit place small
    ∙ ap (λ (k : ℕ). bit_xor (cat words) (2 ^ k)) (sym (by_places at)))

-- `1 << k`
pub one_at : (k : ℕ) → k < 64 → 1 * 2 ^ k % 2 ^ 64 ≡ 2 ^ k
one_at k l = let small : 2 ^ k < 2 ^ 64 = pow-lt l in omega (arith, small)

-- zeros are zero
pub cat_zero : (words : List ℕ) → ((k : ℕ) → k < length words → get_or words k 0 ≡ 0) → cat words ≡ 0
cat_zero [] all = refl
cat_zero (x ∷ xs) all =
    let first : x ≡ 0 = all 0 (omega arith) in
    let rest = cat_zero xs (λ k l. all (suc k) (omega (arith, l))) in
    omega (arith, first, rest)
