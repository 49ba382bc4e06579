-- Statements under a premise.
use Rattle.std.specs.Prelude.{◌==◌, ℕ, Bool, false, Option}
use Rattle.std.specs.Option.{option_map_or}

-- whether a statement with this premise, or with none, stands under p
abbrev pub is_under : ℕ → Option ℕ → Bool
is_under p premise = option_map_or (λ q. q == p) premise false
