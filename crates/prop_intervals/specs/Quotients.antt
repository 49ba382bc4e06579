-- Quotients of whole numbers by a number above 0. Euclid's quotient by such a number,
-- `int_div_euclid`, is the one that is rounded down.
use Rattle.std.specs.Prelude.{ℤ, neg_ℤ}
use Rattle.std.specs.Int.{int_div_euclid}

-- the quotient of a by d, rounded up: the least number that times d is at least a
unfoldable pub int_div_ceil : ℤ → ℤ → ℤ
int_div_ceil a d = neg_ℤ (int_div_euclid (neg_ℤ a) d)
