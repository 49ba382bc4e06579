-- The greatest and the least of some numbers.
use Rattle.std.specs.Prelude.{◌≡◌, ℤ, neg_ℤ, int_lt, if◌then◌else◌, List, [], ◌∷◌}
use Rattle.std.specs.Int.{int_max, int_min}
use Rattle.prop_lattice.specs.Points.{Point, Number}
use Rattle.prop_lattice.specs.declared.info.Info.{Info}
use Rattle.prop_lattice.specs.declared.info.Info.TheVariants.{Contradiction}
use Rattle.prop_lattice.specs.declared.span.TheConstants.{B}
use Rattle.prop_wide.specs.Ends.{low_of, high_of, known}

-- the greatest of an end of each number, and the least in range where there is no number
abbrev pub top : (Info → ℤ) → List Info → ℤ
top end [] = neg_ℤ B
top end (a ∷ numbers) = int_max (end a) (top end numbers)

-- the least of an end of each number, and the greatest in range where there is no number
abbrev pub bottom : (Info → ℤ) → List Info → ℤ
bottom end [] = B
bottom end (a ∷ numbers) = int_min (end a) (bottom end numbers)

-- what is known of the greatest of some numbers
abbrev pub greatest_of : List Info → Info
greatest_of numbers = known (top low_of numbers) (top high_of numbers)

-- What is known of a number where z is the greatest of it and others. It is no greater than z, and
-- it is z where all others are sure to be less. Where one of the others is sure to be greater than
-- z, that is a contradiction.
abbrev pub greatest_back_of : Info → List Info → Info
greatest_back_of z others =
    if int_lt (high_of z) (top low_of others) then Contradiction
    else known (if int_lt (top high_of others) (low_of z) then low_of z else neg_ℤ B) (high_of z)

-- what is known of the least of some numbers
abbrev pub least_of : List Info → Info
least_of numbers = known (bottom low_of numbers) (bottom high_of numbers)

-- What is known of a number where z is the least of it and others. It is no less than z, and it is
-- z where all others are sure to be greater. Where one of the others is sure to be less than z,
-- that is a contradiction.
abbrev pub least_back_of : Info → List Info → Info
least_back_of z others =
    if int_lt (bottom high_of others) (low_of z) then Contradiction
    else known (low_of z) (if int_lt (high_of z) (bottom low_of others) then high_of z else B)

-- the greatest of some points, and the least in range where there are none
abbrev pub greatest_at : List Point → ℤ
greatest_at (Number v ∷ points) = int_max v (greatest_at points)
greatest_at points = neg_ℤ B

-- the least of some points, and the greatest in range where there are none
abbrev pub least_at : List Point → ℤ
least_at (Number v ∷ points) = int_min v (least_at points)
least_at points = B

-- the output is the greatest of the numbers
abbrev pub RelatesGreatest : List Point → Point → Type 0
RelatesGreatest numbers (Number z) = z ≡ greatest_at numbers
RelatesGreatest numbers point = ⊥

-- the output is the least of the numbers
abbrev pub RelatesLeast : List Point → Point → Type 0
RelatesLeast numbers (Number z) = z ≡ least_at numbers
RelatesLeast numbers point = ⊥

-- z is the greatest of the others and the output
abbrev pub RelatesGreatestBack : List Point → Point → Type 0
RelatesGreatestBack (Number z ∷ others) (Number x) = z ≡ int_max x (greatest_at others)
RelatesGreatestBack points point = ⊥

-- z is the least of the others and the output
abbrev pub RelatesLeastBack : List Point → Point → Type 0
RelatesLeastBack (Number z ∷ others) (Number x) = z ≡ int_min x (least_at others)
RelatesLeastBack points point = ⊥
