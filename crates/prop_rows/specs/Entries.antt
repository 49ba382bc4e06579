-- The entry of a number in a row: what is known of the entry that a number picks, and of the
-- number. Entries are counted from 1.
use Rattle.std.specs.Prelude.{◌≡◌, ◌⊎◌, ℤ, pos, ◌+ℤ◌, int_le, Bool, not, ◌&&◌, List, [], ◌∷◌}
use Rattle.std.specs.Prelude.{if◌then◌else◌}
use Rattle.std.specs.Ordering.{int_eq}
use Rattle.prop_intervals.specs.Clip.{clip}
use Rattle.prop_lattice.specs.Order.{merge_of, is_contradiction}
use Rattle.prop_lattice.specs.Points.{Point}
use Rattle.prop_lattice.specs.declared.info.Info.{Info}
use Rattle.prop_lattice.specs.declared.info.Info.TheVariants.{Nothing, Contradiction}
use Rattle.prop_wide.specs.Ends.{low_of, high_of}
use Rattle.prop_wide.specs.Hulls.{hull_of}

-- what is known of the number leaves this one
abbrev pub may_be : Info → ℤ → Bool
may_be number this = int_le (low_of number) this && int_le this (high_of number)

-- the two can be of one value: together they are no contradiction
abbrev pub meets : Info → Info → Bool
meets a b = not (is_contradiction (merge_of a b))

-- the hull of the entries that the number may pick, of which the first has the number `first`
abbrev pub picked : Info → ℤ → List Info → Info
picked number first [] = Contradiction
picked number first (entry ∷ entries) =
    hull_of (if may_be number first then entry else Contradiction)
    (picked number (first +ℤ pos 1) entries)

-- what is known of the entry of the number, counted from 1
abbrev pub element_of : Info → List Info → Info
element_of number entries = picked number (pos 1) entries

-- the hull of the numbers that the number may be and whose entries may have the value; the first
-- entry has the number `first`
abbrev pub found : Info → Info → ℤ → List Info → Info
found value number first [] = Contradiction
found value number first (entry ∷ entries) =
    hull_of (if may_be number first && meets entry value then clip first first else Contradiction)
    (found value number (first +ℤ pos 1) entries)

-- what is known of the number of an entry that has the value
abbrev pub index_of : Info → Info → List Info → Info
index_of value number entries = found value number (pos 1) entries

-- both numbers are known, and the same
abbrev pub is_known_as : Info → Info → Bool
is_known_as number this = int_eq (low_of number) (high_of number)
    && (int_eq (low_of this) (high_of this) && int_eq (low_of number) (low_of this))

-- What is known of the entry of number `this` where the entry of `number` has the value: the value,
-- if both numbers are known and the same, and else nothing.
abbrev pub entry_of : Info → Info → Info → Info
entry_of number this value = if is_known_as number this then value else Nothing

-- the point is the entry of the number, where the first entry has the number `first`
abbrev pub IsEntry : ℤ → ℤ → List Point → Point → Type 0
IsEntry number first [] point = ⊥
IsEntry number first (entry ∷ entries) point = ((number ≡ first) × (point ≡ entry))
    ⊎ IsEntry number (first +ℤ pos 1) entries point
