-- The numbers below a bound that pass a test.
use Rattle.std.specs.Prelude.{ℕ, zero, suc, ◌+◌, ◌*◌, ◌^◌, Bool, false, cond, ◌||◌}

-- a word in which the bits of those numbers are set
unfoldable pub bits_where : ℕ → (ℕ → Bool) → ℕ
bits_where zero test = 0
bits_where (suc n) test = cond (test n) 1 0 * 2 ^ n + bits_where n test

-- there is one
unfoldable pub any_below : ℕ → (ℕ → Bool) → Bool
any_below zero test = false
any_below (suc n) test = test n || any_below n test
