-- When a task may start that shares a resource with others.
use Rattle.std.specs.Prelude.{◌≡◌, Bool, ℤ, pos, neg_ℤ, ◌+ℤ◌, ◌-ℤ◌, int_le, int_lt, ◌<ℤ◌, ◌≤ℤ◌}
use Rattle.std.specs.Prelude.{◌&&◌, ◌||◌, if◌then◌else◌, List, ◌∷◌}
use Rattle.std.specs.Int.{int_max}
use Rattle.prop_lattice.specs.Points.{Point, Number}
use Rattle.prop_lattice.specs.declared.info.Info.{Info}
use Rattle.prop_lattice.specs.declared.info.Info.TheVariants.{Nothing}
use Rattle.prop_lattice.specs.declared.span.TheConstants.{B}
use Rattle.prop_wide.specs.Ends.{low_of, high_of, known}
use Rattle.prop_many.specs.Loads.{demand_of, end_of, keeps_room, load_at, load_of}

-- A task of this length fits at this start: it has no length, or the others take no more than
-- `room` for sure at the start, nor at the latest start of any of them while the task runs.
abbrev pub fits : List Info → ℤ → ℤ → ℤ → Bool
fits tasks room length start =
    int_le length (pos 0) || (int_le (load_of tasks start) room
    && keeps_room tasks tasks room start (start +ℤ length))

-- the time is no earlier than `low`, it is before `first`, and the task fits there
abbrev pub is_sooner : List Info → ℤ → ℤ → ℤ → ℤ → ℤ → Bool
is_sooner tasks room length low time first =
    (int_le low time && int_lt time first) && fits tasks room length time

-- the time is no later than `high`, it is behind `last`, and the task fits there
abbrev pub is_later : List Info → ℤ → ℤ → ℤ → ℤ → ℤ → Bool
is_later tasks room length high time last =
    (int_le time high && int_lt last time) && fits tasks room length time

-- The first start at which the task fits, of `low` and the ends behind it of the second list of
-- tasks; one past the range where there is none.
abbrev pub first_of : List Info → List Info → ℤ → ℤ → ℤ → ℤ
first_of tasks (start ∷ long ∷ demand ∷ ending) room length low =
    let end = end_of start long in
    let first = first_of tasks ending room length low in
    if is_sooner tasks room length low end first then end else first
first_of tasks ending room length low =
    if fits tasks room length low then low else B +ℤ pos 1

-- The last start at which the task fits, of `high` and those before it from which it ends where one
-- of the second list of tasks starts; one before the range where there is none.
abbrev pub last_of : List Info → List Info → ℤ → ℤ → ℤ → ℤ
last_of tasks (start ∷ long ∷ demand ∷ starting) room length high =
    let before = high_of start -ℤ length in
    let last = last_of tasks starting room length high in
    if is_later tasks room length high before last then before else last
last_of tasks starting room length high =
    if fits tasks room length high then high else neg_ℤ B -ℤ pos 1

-- from the first to the last start at which the task fits
abbrev pub starts_of : List Info → ℤ → ℤ → Info → Info
starts_of tasks room length start =
    known (first_of tasks tasks room length (low_of start))
    (last_of tasks tasks room length (high_of start))

-- The start of a task that takes its demand of a capacity beside others. The arguments are the
-- capacity, the task's start, length and demand, and those of each other.
abbrev pub cumulative_of : List Info → Info
cumulative_of (capacity ∷ start ∷ length ∷ demand ∷ tasks) =
    starts_of tasks (high_of capacity -ℤ demand_of demand) (low_of length) start
cumulative_of args = Nothing

-- at each time while the task runs, its demand and what the others take are no more than the
-- capacity
abbrev pub HasRoom : ℤ → ℤ → ℤ → ℤ → List Point → Type 0
HasRoom capacity start length demand tasks =
    (time : ℤ) → start ≤ℤ time → time <ℤ (start +ℤ length)
    → (int_max demand (pos 0) +ℤ load_at tasks time) ≤ℤ capacity

-- The output is the start of the first task. While this runs, it and the others keep to the
-- capacity.
abbrev pub RelatesCumulative : List Point → Point → Type 0
RelatesCumulative (Number capacity ∷ Number start ∷ Number length ∷ Number demand ∷ tasks) point =
    (point ≡ Number start) × HasRoom capacity start length demand tasks
RelatesCumulative points point = ⊥
