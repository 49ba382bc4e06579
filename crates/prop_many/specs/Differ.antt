-- Numbers that are all different. A Hall interval is one in which as many of the others lie as it
-- has numbers: they take all of it, so that no further number can be in it.
use Rattle.std.specs.Prelude.{◌≡◌, ℕ, zero, suc, ◌+◌, nat_lt, ℤ, pos, ◌+ℤ◌, ◌-ℤ◌, int_le}
use Rattle.std.specs.Prelude.{int_lt, Bool, false, ◌&&◌, ◌||◌, if◌then◌else◌, List, [], ◌∷◌, length}
use Rattle.std.specs.Prelude.{min}
use Rattle.std.specs.Int.{int_max, int_min}
use Rattle.prop_hall.specs.Points.{AreDifferent}
use Rattle.prop_lattice.specs.Points.{Point}
use Rattle.prop_lattice.specs.declared.info.Info.{Info}
use Rattle.prop_lattice.specs.declared.info.Info.TheVariants.{Nothing, Contradiction}
use Rattle.prop_wide.specs.Ends.{low_of, high_of, known}

-- whichever number the other is, it lies in the interval of `many` numbers from `first` on
abbrev pub lies_in : Info → ℤ → ℕ → Bool
lies_in other first many = int_le first (low_of other) && int_lt (high_of other) (first +ℤ pos many)

-- how many of the others lie in the interval
abbrev pub lying_in : List Info → ℤ → ℕ → ℕ
lying_in [] first many = 0
lying_in (other ∷ others) first many =
    (if lies_in other first many then 1 else 0) + lying_in others first many

-- How many numbers the widest Hall interval has that begins with `first` and has no more than so
-- many. In it lie as many of the others as it has numbers, or more; 0 where there is none.
abbrev pub width_of : List Info → ℤ → ℕ → ℕ
width_of others first zero = 0
width_of others first (suc many) =
    if nat_lt many (lying_in others first (suc many)) then suc many else width_of others first many

-- in some interval from `first` on, of no more than so many numbers, more of the others lie than it
-- has numbers
abbrev pub is_crowded : List Info → ℤ → ℕ → Bool
is_crowded others first zero = false
is_crowded others first (suc many) =
    is_crowded others first many || nat_lt (suc many) (lying_in others first (suc many))

-- how many numbers the Hall intervals that are looked for may have: no more than there are others,
-- and 64 at the most
abbrev pub widest : List Info → ℕ
widest others = min (length others) 64

-- the first number behind the widest Hall interval that begins with `first`
abbrev pub behind : List Info → ℤ → ℤ
behind others first = first +ℤ pos (width_of others first (widest others))

-- The earliest number that is left: if the number lies in the interval from `first` up to `behind`,
-- it is `behind` or later.
abbrev pub past : ℤ → ℤ → ℤ → ℤ → ℤ
past first behind number earliest =
    if int_le first number && int_lt number behind then int_max earliest behind else earliest

-- The latest number that is left: if the number lies in the interval from `first` up to `behind`,
-- it is before `first`.
abbrev pub before : ℤ → ℤ → ℤ → ℤ → ℤ
before first behind number latest =
    if int_le first number && int_lt number behind then int_min latest (first -ℤ pos 1) else latest

-- the earliest number that is left: past each Hall interval in which the number lies, of those that
-- begin with the low end of one of the second list
abbrev pub past_all : List Info → List Info → ℤ → ℤ → ℤ
past_all others [] number earliest = earliest
past_all others (start ∷ starting) number earliest =
    past_all others starting number
    (past (low_of start) (behind others (low_of start)) number earliest)

-- the latest number that is left: before each such interval
abbrev pub before_all : List Info → List Info → ℤ → ℤ → ℤ
before_all others [] number latest = latest
before_all others (start ∷ starting) number latest =
    before_all others starting number
    (before (low_of start) (behind others (low_of start)) number latest)

-- more of the others lie in some interval than it has numbers, of those that begin with the low end
-- of one of the second list
abbrev pub any_crowded : List Info → List Info → Bool
any_crowded others [] = false
any_crowded others (start ∷ starting) =
    is_crowded others (low_of start) (widest others) || any_crowded others starting

-- what is left of a number beside the others: a contradiction where these alone find no room
abbrev pub left_beside : Info → List Info → Info
left_beside own others =
    if any_crowded others others then Contradiction
    else known (past_all others others (low_of own) (low_of own))
    (before_all others others (high_of own) (high_of own))

-- What is known of a number that differs from others. The arguments are what is known of it, and
-- then of each other.
abbrev pub differ_of : List Info → Info
differ_of (own ∷ others) = left_beside own others
differ_of [] = Nothing

-- all numbers are different, and the output is the first
abbrev pub RelatesDiffer : List Point → Point → Type 0
RelatesDiffer (own ∷ others) point = (point ≡ own) × AreDifferent (own ∷ others)
RelatesDiffer [] point = ⊥
