-- The numbers of a choice's sides.
use Rattle.std.specs.Prelude.{ℕ, ◌+◌, Bool, ◌&&◌, nat_le, nat_lt}
use Rattle.prop_premises.specs.declared.choice.Choice.{Choice}

-- the premise is a side of the choice
abbrev pub is_side_of : Choice → ℕ → Bool
is_side_of choice p = nat_le choice.first p && nat_lt p (choice.first + choice.sides)
