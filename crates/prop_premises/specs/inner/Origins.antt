-- One premise: whether it is called so, whether it is believed; the sides of a choice one by one.
use Rattle.std.specs.Prelude.{ℕ, Bool, false, bytes_eq, List, map}
use Rattle.std.specs.List.{range_with_len}
use Rattle.prop_premises.specs.Origins.{Origin, User, Side}

abbrev pub is_user_called : List ℕ → Origin → Bool
is_user_called name (User other believed) = bytes_eq name other
is_user_called name (Side choice side sides) = false

abbrev pub is_side_called : List ℕ → Origin → Bool
is_side_called name (User other believed) = false
is_side_called name (Side choice side sides) = bytes_eq name choice

abbrev pub is_believed : Origin → Bool
is_believed (User name believed) = believed
is_believed (Side choice side sides) = false

abbrev pub with_belief : Bool → Origin → Origin
with_belief believed (User name before) = User name believed
with_belief believed (Side choice side sides) = Side choice side sides

-- the first n sides of a choice with so many
abbrev pub sides_below : List ℕ → ℕ → ℕ → List Origin
sides_below name sides n = map (λ side. Side name side sides) (range_with_len 1 n)
