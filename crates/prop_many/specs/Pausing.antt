-- When a task ends that pauses, and when it starts. On the days of a pause nothing of it is done.
use Rattle.std.specs.Prelude.{◌≡◌, Bool, ℤ, pos, ◌+ℤ◌, ◌-ℤ◌, ◌<ℤ◌, int_lt, if◌then◌else◌}
use Rattle.std.specs.Prelude.{List, ◌∷◌, map}
use Rattle.std.specs.Int.{int_max, int_min}
use Rattle.std.specs.List.{list_all}
use Rattle.prop_lattice.specs.Points.{Point, Number}
use Rattle.prop_lattice.specs.declared.info.Info.{Info}
use Rattle.prop_lattice.specs.declared.info.Info.TheVariants.{Nothing}
use Rattle.prop_wide.specs.Ends.{low_of, high_of, known}
use Rattle.prop_many.specs.Circuit.{is_one}

-- Days are counted with pauses, or without: then each day of a pause is its first. A pause is its
-- first day and how many days it has, which count as none where they are fewer.

-- the day once the days of a pause are left out
abbrev pub left_out : ℤ → ℤ → ℤ → ℤ
left_out first days day = if int_lt first day then int_max first (day -ℤ days) else day

-- the earliest day that isn't before this one once they are left out
abbrev pub put_in : ℤ → ℤ → ℤ → ℤ
put_in first days day = if int_lt first day then day +ℤ days else day

-- the latest day that isn't behind this one once they are left out
abbrev pub put_before : ℤ → ℤ → ℤ → ℤ
put_before first days day = if int_lt day first then day else day +ℤ days

-- the day once the days of all pauses are left out, those of the last first
abbrev pub worked_by : List ℤ → ℤ → ℤ
worked_by (first ∷ days ∷ pauses) day =
    left_out first (int_max days (pos 0)) (worked_by pauses day)
worked_by pauses day = day

-- the earliest and the latest day that are this one once they are left out
abbrev pub earliest_by : List ℤ → ℤ → ℤ
earliest_by (first ∷ days ∷ pauses) day =
    earliest_by pauses (put_in first (int_max days (pos 0)) day)
earliest_by pauses day = day

abbrev pub latest_by : List ℤ → ℤ → ℤ
latest_by (first ∷ days ∷ pauses) day =
    latest_by pauses (put_before first (int_max days (pos 0)) day)
latest_by pauses day = day

-- the end of a task: it starts on a day, and takes so many days of work, none where they are fewer
abbrev pub end_by : List ℤ → ℤ → ℤ → ℤ
end_by pauses start work =
    int_max start (earliest_by pauses (worked_by pauses start +ℤ int_max work (pos 0)))

-- the least of what is known of each number
abbrev pub lows : List Info → List ℤ
lows = map low_of

-- each number is known
abbrev pub are_known : List Info → Bool
are_known = list_all is_one

-- the end of a task with these pauses, by what is known of its start and its work
abbrev pub ends_of : List ℤ → Info → Info → Info
ends_of pauses start work = known (end_by pauses (low_of start) (low_of work))
    (end_by pauses (high_of start) (high_of work))

-- The end of a task. The arguments are its start, its days of work, and the first day and how many
-- days of each pause. While a pause isn't known, nothing is.
abbrev pub ending_of : List Info → Info
ending_of (start ∷ work ∷ pauses) =
    if are_known pauses then ends_of (lows pauses) start work else Nothing
ending_of args = Nothing

-- the latest start from which so much work is done by an end
abbrev pub start_by : List ℤ → ℤ → ℤ → ℤ
start_by pauses end work = latest_by pauses (worked_by pauses end -ℤ int_max work (pos 0))

-- the first day from this one on that is no day of a pause, and the last one up to this one
abbrev pub workday_from : List ℤ → ℤ → ℤ
workday_from pauses day = latest_by pauses (worked_by pauses day)

abbrev pub workday_to : List ℤ → ℤ → ℤ
workday_to pauses day = if int_lt day (workday_from pauses day)
    then latest_by pauses (worked_by pauses day -ℤ pos 1) else day

-- the first day from which the task may end so late, and the last from which it may end so soon
abbrev pub late_enough : List ℤ → Info → Info → Info → ℤ
late_enough pauses start end work = int_max (low_of start)
    (int_min (low_of end) (start_by pauses (low_of end -ℤ pos 1) (high_of work) +ℤ pos 1))

abbrev pub soon_enough : List ℤ → Info → Info → Info → ℤ
soon_enough pauses start end work =
    int_min (high_of start) (int_min (high_of end) (start_by pauses (high_of end) (low_of work)))

-- the first and the last of these that are no days of a pause, where there is any work
abbrev pub first_start : List ℤ → Info → Info → Info → ℤ
first_start pauses start end work =
    if int_lt (pos 0) (low_of work) then workday_from pauses (late_enough pauses start end work)
    else late_enough pauses start end work

abbrev pub last_start : List ℤ → Info → Info → Info → ℤ
last_start pauses start end work =
    if int_lt (pos 0) (low_of work) then workday_to pauses (soon_enough pauses start end work)
    else soon_enough pauses start end work

-- the start of a task with these pauses, by what is known of it, of its end and of its work
abbrev pub starts_of : List ℤ → Info → Info → Info → Info
starts_of pauses start end work =
    known (first_start pauses start end work) (last_start pauses start end work)

-- The start of a task. The arguments are its start, its end, its days of work, and the pauses.
abbrev pub starting_of : List Info → Info
starting_of (start ∷ end ∷ work ∷ pauses) =
    if are_known pauses then starts_of (lows pauses) start end work else Nothing
starting_of args = Nothing

-- the numbers that points are
abbrev pub number_in : Point → ℤ
number_in (Number n) = n
number_in point = pos 0

abbrev pub numbers_in : List Point → List ℤ
numbers_in = map number_in

-- the output is the end of the task
abbrev pub RelatesEnding : List Point → Point → Type 0
RelatesEnding (Number start ∷ Number work ∷ pauses) point =
    point ≡ Number (end_by (numbers_in pauses) start work)
RelatesEnding points point = ⊥

-- the output is the task's start, and the end is its end; it starts on no day of a pause, where
-- there is any work
abbrev pub RelatesStarting : List Point → Point → Type 0
RelatesStarting (Number start ∷ Number end ∷ Number work ∷ pauses) point =
    (point ≡ Number start) × (end ≡ end_by (numbers_in pauses) start work)
    × (pos 0 <ℤ work → workday_from (numbers_in pauses) start ≡ start)
RelatesStarting points point = ⊥
