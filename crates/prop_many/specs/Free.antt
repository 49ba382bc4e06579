-- What is left of a number beside others, and the Hall intervals of these (see Differ).
use Rattle.std.specs.Prelude.{◌≡◌, ℕ, ◌≤◌, ℤ, pos, ◌+ℤ◌, ◌≤ℤ◌, ◌<ℤ◌, false, List, length}
use Rattle.prop_lattice.specs.declared.info.Info.{Info}
use Rattle.prop_many.specs.Differ.{any_crowded, before_all, lying_in, past_all}

-- the interval has a number at the least, and in it lie as many of the others as it has numbers, or
-- more
abbrev pub IsHall : List Info → ℤ → ℕ → Type 0
IsHall others first many = (1 ≤ many) × (many ≤ lying_in others first many)

-- the number is in no Hall interval of the others
abbrev pub IsFree : List Info → ℤ → Type 0
IsFree others number = (first : ℤ) (many : ℕ) → IsHall others first many → first ≤ℤ number
    → number <ℤ (first +ℤ pos many) → ⊥

-- The numbers to which `past_all` and `before_all` lead from a number are in no Hall interval of
-- the others, where these are 64 at the most and have room. So what `left_beside` leaves ends with
-- numbers that the others don't take.
abbrev pub EndsAreFree : Type 0
EndsAreFree = (number : ℤ) (others : List Info) → length others ≤ 64
    → any_crowded others others ≡ false
    → IsFree others (past_all others others number number)
    × IsFree others (before_all others others number number)
