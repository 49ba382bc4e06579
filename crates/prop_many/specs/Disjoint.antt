-- When a task may start that may not overlap others.
use Rattle.std.specs.Prelude.{◌≡◌, Bool, ℤ, pos, ◌+ℤ◌, ◌-ℤ◌, int_lt, ◌<ℤ◌, ◌≤ℤ◌, ◌&&◌}
use Rattle.std.specs.Prelude.{if◌then◌else◌, List, ◌∷◌, ⊤}
use Rattle.std.specs.Int.{int_max, int_min}
use Rattle.prop_lattice.specs.Points.{Point, Number}
use Rattle.prop_lattice.specs.declared.info.Info.{Info}
use Rattle.prop_lattice.specs.declared.info.Info.TheVariants.{Nothing}
use Rattle.prop_wide.specs.Ends.{low_of, high_of, known}
use Rattle.prop_many.specs.Loads.{end_of}

-- the task is sure to come behind the other: both are sure to have some length, and the other
-- starts before the task can end
abbrev pub is_behind : Info → Info → Info → Info → Bool
is_behind start length other long = (int_lt (pos 0) (low_of length) && int_lt (pos 0) (low_of long))
    && int_lt (high_of other) (end_of start length)

-- the task's earliest start: no earlier than the end of each other that it is sure to come behind
abbrev pub earliest_of : Info → Info → List Info → ℤ
earliest_of start length (other ∷ long ∷ others) =
    let earliest = earliest_of start length others in
    if is_behind start length other long then int_max earliest (end_of other long) else earliest
earliest_of start length others = low_of start

-- the task's latest start if it ends before the other starts
abbrev pub start_before : Info → Info → ℤ
start_before other length = high_of other -ℤ low_of length

-- the task's latest start: it ends before each other starts that is sure to come behind it
abbrev pub latest_of : Info → Info → List Info → ℤ
latest_of start length (other ∷ long ∷ others) =
    let latest = latest_of start length others in
    if is_behind other long start length then int_min latest (start_before other length)
    else latest
latest_of start length others = high_of start

-- the task's start: from the earliest to the latest
abbrev pub apart_of : Info → Info → List Info → Info
apart_of start length others =
    known (earliest_of start length others) (latest_of start length others)

-- The start of a task. The arguments are its start and its length, and those of each other.
abbrev pub disjoint_of : List Info → Info
disjoint_of (start ∷ length ∷ others) = apart_of start length others
disjoint_of args = Nothing

-- at no time do both tasks run
abbrev pub AreApart : ℤ → ℤ → ℤ → ℤ → Type 0
AreApart start length other long = (time : ℤ) → start ≤ℤ time → time <ℤ (start +ℤ length)
    → other ≤ℤ time → time <ℤ (other +ℤ long) → ⊥

-- at no time does the task run beside any of the others
abbrev pub IsApart : ℤ → ℤ → List Point → Type 0
IsApart start length (Number other ∷ Number long ∷ others) =
    AreApart start length other long × IsApart start length others
IsApart start length others = ⊤

-- the first task runs beside no other, and the output is its start
abbrev pub RelatesDisjoint : List Point → Point → Type 0
RelatesDisjoint (Number start ∷ Number length ∷ others) point =
    (point ≡ Number start) × IsApart start length others
RelatesDisjoint points point = ⊥
