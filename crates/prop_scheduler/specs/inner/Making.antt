-- The parameters of a use by their numbers in the network.
use Rattle.std.specs.Prelude.{ℕ, ◌+◌, ◌-◌, cond, nat_lt, Option, Some, None}

-- The network's number of the use's parameter n. The network has `count` parameters, and those of
-- the use are the ones from `first` on.
abbrev pub param_number : ℕ → ℕ → Option ℕ → Option ℕ
param_number first count None = None
param_number first count (Some n) = cond (nat_lt n (count - first)) (Some (first + n)) None
