-- What is known of the numbers below a bound that pass a test.
use Rattle.std.specs.Prelude.{◌≡◌, ℕ, zero, suc, ◌+◌, ◌-◌, ◌*◌, ◌^◌, ◌<◌, ◌≤◌, Bool, true, false}
use Rattle.std.specs.Prelude.{cond, ◌⊎◌}
use Rattle.std.specs.Bool.{Decides}
use Rattle.std.specs.Int.{bit_at}
use Rattle.std.proofs.Common.{arith, refl, inl, inr}
use Rattle.std.proofs.lemmas.Bool.{cases_lt}
use Rattle.std.proofs.lemmas.Bool.Decides.{Decides-below_or}
use Rattle.std.proofs.lemmas.Nat.Bits.{bit_at-zero, bit_at_lowest, bit_at_above, bit_at_cat_low}
use Rattle.std.proofs.lemmas.Nat.Bits.{bit_at_cat_high}
use Rattle.std.proofs.Math.Nat.{pow-suc}
use Rattle.prop_sets.specs.Chosen.{bits_where, any_below}

-- ---- the word

fits_more : (b : Bool) (n rest : ℕ) → rest < 2 ^ n → cond b 1 0 * 2 ^ n + rest < 2 ^ suc n
fits_more true n rest l = omega (arith, pow-suc 2 n)
fits_more false n rest l = omega (arith, pow-suc 2 n)

-- it has no bits but those below the bound
pub bits_where-lt : (n : ℕ) (test : ℕ → Bool) → bits_where n test < 2 ^ n
unfolding bits_where
bits_where-lt zero test = omega arith
bits_where-lt (suc n) test = fits_more (test n) n (bits_where n test) (bits_where-lt n test)

bit_of_one : (k : ℕ) → bit_at 1 k ≡ 1 → k ≡ 0
bit_of_one zero h = refl
bit_of_one (suc k) h = absurd (omega
    (arith, h, bit_at_above 1 1 (suc k) (omega arith) (omega arith)))

top_bit : (b : Bool) (n rest j : ℕ) → rest < 2 ^ n → n ≤ j
    → bit_at (cond b 1 0 * 2 ^ n + rest) j ≡ 1 → (j ≡ n) × (b ≡ true)
top_bit true n rest j l le h =
    let zeroth : j - n ≡ 0 = bit_of_one (j - n) (rw (bit_at_cat_high 1 n rest j l le) at h) in
    (omega arith, refl)
top_bit false n rest j l le h =
    absurd (omega (arith, bit_at-zero (j - n), rw (bit_at_cat_high 0 n rest j l le) at h))

-- a bit that is set is that of a number that passes
pub bits_where-passes : (n : ℕ) (test : ℕ → Bool) (j : ℕ) → bit_at (bits_where n test) j ≡ 1
    → (j < n) × (test j ≡ true)
unfolding bits_where
bits_where-passes zero test j h = absurd (omega (arith, h, bit_at-zero j))
bits_where-passes (suc n) test j h = by (cases_lt j n) (bits_where-passes n test j)
  where
    by : (j < n) ⊎ (n ≤ j) → (bit_at (bits_where n test) j ≡ 1 → (j < n) × (test j ≡ true))
        → (j < suc n) × (test j ≡ true)
    by (inl l) rest =
        let below = rest (rw (bit_at_cat_low (cond (test n) 1 0) n (bits_where n test) j l) at h) in
        (omega arith, below.1)
    by (inr le) rest =
        let top = top_bit (test n) n (bits_where n test) j (bits_where-lt n test) le h in
        (omega (arith, top.0), rw top.0 top.1)

at_top : (b : Bool) (n rest : ℕ) → rest < 2 ^ n → b ≡ true
    → bit_at (cond b 1 0 * 2 ^ n + rest) n ≡ 1
at_top true n rest l e =
    let none : n - n ≡ 0 = omega arith in
    rw (bit_at_cat_high 1 n rest n l (omega arith), none) (bit_at_lowest 1)
at_top false n rest l e = absurd (cc)

-- and the bit of each number that passes is set
pub bits_where-has : (n : ℕ) (test : ℕ → Bool) (j : ℕ) → j < n → test j ≡ true
    → bit_at (bits_where n test) j ≡ 1
unfolding bits_where
bits_where-has zero test j l h = absurd (omega arith)
bits_where-has (suc n) test j l h = by (cases_lt j n) (λ below. bits_where-has n test j below h)
  where
    by : (j < n) ⊎ (n ≤ j) → (j < n → bit_at (bits_where n test) j ≡ 1)
        → bit_at (cond (test n) 1 0 * 2 ^ n + bits_where n test) j ≡ 1
    by (inl below) rest = rw (bit_at_cat_low (cond (test n) 1 0) n (bits_where n test) j below)
        (rest below)
    by (inr le) rest =
        let same : j ≡ n = omega arith in
        rw same (at_top (test n) n (bits_where n test) (bits_where-lt n test) (rw same at h))

-- ---- whether there is one

pub any_below-Decides : (test : ℕ → Bool) (P : ℕ → Type 0) → ((k : ℕ) → Decides (test k) (P k))
    → (n : ℕ) → Decides (any_below n test) ((k : ℕ) × (k < n) × P k)
unfolding any_below
any_below-Decides test P each n =
    Decides-below_or test P (λ m. any_below m test) each refl (λ m. refl) n
