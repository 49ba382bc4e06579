-- The digits of small numbers.
use Rattle.std.specs.Prelude.{◌≡◌, ◌<◌, ◌≤◌, ◌+◌, ◌/◌, ◌%◌, ℕ, [], ◌∷◌}
use Rattle.std.specs.Fmt.{decimal}
use Rattle.std.proofs.Common.{arith, ap, ◌∙◌, ◌++◌}
use Rattle.std.proofs.lemmas.Fmt.{decimal_digit, decimal_step}

pub decimal_two_digits : (n : ℕ) → 10 ≤ n → n < 100 → decimal n ≡ (48 + n / 10) ∷ (48 + n % 10) ∷ []
decimal_two_digits n p q = decimal_step n p (omega arith)
    ∙ ap (λ ds. ds ++ ((48 + n % 10) ∷ [])) (decimal_digit (n / 10) (omega arith))

pub ruleset decimals = (decimal_digit, decimal_two_digits)
