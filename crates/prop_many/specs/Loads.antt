-- What tasks take of a resource for sure, and where they leave room.
use Rattle.std.specs.Prelude.{Bool, true, ℤ, pos, ◌+ℤ◌, int_le, int_lt, ◌&&◌, ◌||◌}
use Rattle.std.specs.Prelude.{if◌then◌else◌, List, ◌∷◌}
use Rattle.std.specs.Int.{int_max}
use Rattle.prop_lattice.specs.Points.{Point, Number}
use Rattle.prop_lattice.specs.declared.info.Info.{Info}
use Rattle.prop_wide.specs.Ends.{low_of, high_of}

-- what a demand takes at a time, where it lasts from one time up to another
abbrev pub part_at : ℤ → ℤ → ℤ → ℤ → ℤ
part_at from to demand time = if int_le from time && int_lt time to then demand else pos 0

-- the earliest end of a task
abbrev pub end_of : Info → Info → ℤ
end_of start length = low_of start +ℤ low_of length

-- the least that a task demands, never below zero
abbrev pub demand_of : Info → ℤ
demand_of demand = int_max (low_of demand) (pos 0)

-- what a task takes at a time for sure: it runs from its latest start up to its earliest end,
-- wherever it starts
abbrev pub taken_of : Info → Info → Info → ℤ → ℤ
taken_of start length demand time =
    part_at (high_of start) (end_of start length) (demand_of demand) time

-- what the tasks take at a time for sure
abbrev pub load_of : List Info → ℤ → ℤ
load_of (start ∷ length ∷ demand ∷ tasks) time =
    taken_of start length demand time +ℤ load_of tasks time
load_of tasks time = pos 0

-- the time is not inside the two, or the tasks leave room at it
abbrev pub is_free : List Info → ℤ → ℤ → ℤ → ℤ → Bool
is_free tasks room from to time =
    (int_le time from || int_le to time) || int_le (load_of tasks time) room

-- the tasks take no more than `room` for sure at each latest start of one of the second list that
-- is inside the two times
abbrev pub keeps_room : List Info → List Info → ℤ → ℤ → ℤ → Bool
keeps_room tasks (start ∷ length ∷ demand ∷ starting) room from to =
    is_free tasks room from to (high_of start) && keeps_room tasks starting room from to
keeps_room tasks starting room from to = true

-- what tasks take at a time whose starts, lengths and demands are known
abbrev pub load_at : List Point → ℤ → ℤ
load_at (Number start ∷ Number length ∷ Number demand ∷ tasks) time =
    part_at start (start +ℤ length) (int_max demand (pos 0)) time +ℤ load_at tasks time
load_at tasks time = pos 0
