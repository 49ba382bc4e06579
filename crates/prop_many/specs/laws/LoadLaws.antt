-- The laws of loads.
use Rattle.std.specs.Prelude.{◌≡◌, ℤ, pos, ◌+ℤ◌, ◌≤ℤ◌, ◌<ℤ◌, Bool, true, false, int_le, int_lt}
use Rattle.std.specs.Prelude.{◌&&◌, ◌||◌, if◌then◌else◌, List, [], ◌∷◌, ⊤}
use Rattle.std.specs.Int.{int_max}
use Rattle.std.proofs.Common.{arith, refl, rules}
use Rattle.std.proofs.lemmas.Bool.{and_parts}
use Rattle.std.proofs.lemmas.Int.{ints, clamps}
use Rattle.prop_lattice.specs.Points.{Point, Number}
use Rattle.prop_lattice.specs.declared.info.Info.{Info}
use Rattle.prop_wide.specs.Ends.{low_of, high_of}
use Rattle.prop_many.specs.Loads.{demand_of, end_of, is_free, keeps_room, load_at, load_of, part_at}
use Rattle.prop_many.specs.laws.NumberLaws.{AreCloser, AreKept, both_true, le_true, never}

-- ---- one task

pub part_in : (from to demand time : ℤ) → from ≤ℤ time → time <ℤ to
    → part_at from to demand time ≡ demand
part_in from to demand time p q = by (int_le from time) refl (int_lt time to) refl
  where
    by : (a : Bool) → int_le from time ≡ a → (b : Bool) → int_lt time to ≡ b
        → (if a && b then demand else pos 0) ≡ demand
    by true e true f = refl
    by true e false f = absurd (omega (arith, ints))
    by false e b f = absurd (omega (arith, ints))

pub part_least : (from to demand time : ℤ) → pos 0 ≤ℤ demand → pos 0 ≤ℤ part_at from to demand time
part_least from to demand time p = by (int_le from time && int_lt time to)
  where
    by : (a : Bool) → pos 0 ≤ℤ (if a then demand else pos 0)
    by true = p
    by false = omega (arith, ints)

-- if the first stretch has its time, the second has its own
abbrev pub RunsToo : ℤ → ℤ → ℤ → ℤ → ℤ → ℤ → Type 0
RunsToo from to time from' to' time' =
    from ≤ℤ time → time <ℤ to → (from' ≤ℤ time') × (time' <ℤ to')

pub part_grows : (from to demand time from' to' demand' time' : ℤ)
    → RunsToo from to time from' to' time' → pos 0 ≤ℤ demand' → demand ≤ℤ demand'
    → part_at from to demand time ≤ℤ part_at from' to' demand' time'
part_grows from to demand time from' to' demand' time' h z p =
    by (int_le from time) refl (int_lt time to) refl
  where
    runs : from ≤ℤ time → time <ℤ to → demand ≤ℤ part_at from' to' demand' time'
    runs a b = let k = h a b in rw (part_in from' to' demand' time' k.0 k.1) p

    least : pos 0 ≤ℤ part_at from' to' demand' time'
    least = part_least from' to' demand' time' z

    by : (a : Bool) → int_le from time ≡ a → (b : Bool) → int_lt time to ≡ b
        → (if a && b then demand else pos 0) ≤ℤ part_at from' to' demand' time'
    by true e true f = runs (omega (arith, ints)) (omega (arith, ints))
    by true e false f = least
    by false e b f = least

pub demand_least : (demand : Info) → pos 0 ≤ℤ demand_of demand
demand_least demand = by (low_of demand)
  where
    by : (l : ℤ) → pos 0 ≤ℤ int_max l (pos 0)
    by l = omega (arith, ints, clamps)

pub max_grows : (a b : ℤ) → a ≤ℤ b → int_max a (pos 0) ≤ℤ int_max b (pos 0)
max_grows a b p = omega (arith, ints, clamps)

pub add_le : (a b c d : ℤ) → a ≤ℤ b → c ≤ℤ d → (a +ℤ c) ≤ℤ (b +ℤ d)
add_le a b c d p q = omega (arith, ints)

add_least : (a b : ℤ) → pos 0 ≤ℤ a → pos 0 ≤ℤ b → pos 0 ≤ℤ (a +ℤ b)
add_least a b p q = omega (arith, ints)

none_least : pos 0 ≤ℤ pos 0
none_least = omega (arith, ints)

pub load_least : (tasks : List Info) (time : ℤ) → pos 0 ≤ℤ load_of tasks time
load_least (start ∷ length ∷ demand ∷ tasks) time =
    add_least _ _ (part_least (high_of start) (end_of start length) (demand_of demand) time
    (demand_least demand)) (load_least tasks time)
load_least tasks time = none_least

pub load_at_least : (tasks : List Point) (time : ℤ) → pos 0 ≤ℤ load_at tasks time
load_at_least (Number start ∷ Number length ∷ Number demand ∷ tasks) time =
    add_least _ _ (part_least start (start +ℤ length) (int_max demand (pos 0)) time (least demand))
    (load_at_least tasks time)
  where
    least : (d : ℤ) → pos 0 ≤ℤ int_max d (pos 0)
    least d = omega (arith, ints, clamps)
load_at_least tasks time = none_least

-- ---- where more is known, no less load is

pub load_more : (olds news : List Info) → AreCloser olds news → (time : ℤ)
    → load_of olds time ≤ℤ load_of news time
load_more (s ∷ l ∷ d ∷ olds) (s' ∷ l' ∷ d' ∷ news) p time =
    add_le _ _ _ _
    (part_grows _ _ _ _ _ _ _ _ (runs (high_of s) (low_of s) (low_of l) (high_of s') (low_of s')
    (low_of l') p.0.high p.0.low p.1.0.low) (demand_least d')
    (max_grows (low_of d) (low_of d') p.1.1.0.low)) (load_more olds news p.1.1.1 time)
  where
    runs : (h w v h' w' v' : ℤ) → h' ≤ℤ h → w ≤ℤ w' → v ≤ℤ v'
        → RunsToo h (w +ℤ v) time h' (w' +ℤ v') time
    runs h w v h' w' v' a b c f g = (omega (arith, ints), omega (arith, ints))
load_more (s ∷ l ∷ d ∷ olds) [] p time = absurd p
load_more (s ∷ l ∷ d ∷ olds) (s' ∷ []) p time = absurd p.1
load_more (s ∷ l ∷ d ∷ olds) (s' ∷ l' ∷ []) p time = absurd p.1.1
load_more olds news p time = load_least news time

-- what is taken for sure is no more than what is taken
pub load_kept : (tasks : List Info) (points : List Point) → AreKept tasks points → (time : ℤ)
    → load_of tasks time ≤ℤ load_at points time
load_kept (s ∷ l ∷ d ∷ tasks) (Number u ∷ Number v ∷ Number w ∷ points) p time =
    add_le _ _ _ _
    (part_grows _ _ _ _ _ _ _ _ (runs (high_of s) (low_of s) (low_of l) u v p.0.to p.0.from
    p.1.0.from) (least w) (max_grows (low_of d) w p.1.1.0.from))
    (load_kept tasks points p.1.1.1 time)
  where
    runs : (h k m u v : ℤ) → u ≤ℤ h → k ≤ℤ u → m ≤ℤ v
        → RunsToo h (k +ℤ m) time u (u +ℤ v) time
    runs h k m u v a b c f g = (omega (arith, ints), omega (arith, ints))

    least : (d : ℤ) → pos 0 ≤ℤ int_max d (pos 0)
    least d = omega (arith, ints, clamps)
load_kept (s ∷ l ∷ d ∷ tasks) points p time = search rules
load_kept tasks points p time = load_at_least points time

-- ---- ends and starts

-- P holds of the earliest end of each task
abbrev pub AreEndings : (ℤ → Type 0) → List Info → Type 0
AreEndings P (start ∷ length ∷ demand ∷ tasks) = P (end_of start length) × AreEndings P tasks
AreEndings P tasks = ⊤

-- P holds of the latest start of each task
abbrev pub AreStarts : (ℤ → Type 0) → List Info → Type 0
AreStarts P (start ∷ length ∷ demand ∷ tasks) = P (high_of start) × AreStarts P tasks
AreStarts P tasks = ⊤

-- while no task ends, the load doesn't fall
pub load_until : (tasks : List Info) (time later : ℤ) → time ≤ℤ later
    → AreEndings (λ e. time <ℤ e → later <ℤ e) tasks
    → load_of tasks time ≤ℤ load_of tasks later
load_until (s ∷ l ∷ d ∷ tasks) time later p h =
    add_le _ _ _ _
    (part_grows _ _ _ _ _ _ _ _ (λ a b. (through a, h.0 b)) (demand_least d)
    (same (demand_of d))) (load_until tasks time later p h.1)
  where
    through : high_of s ≤ℤ time → high_of s ≤ℤ later
    through a = by (high_of s) a
      where
        by : (b : ℤ) → b ≤ℤ time → b ≤ℤ later
        by b q = omega (arith, ints)

    same : (a : ℤ) → a ≤ℤ a
    same a = omega (arith, ints)
load_until tasks time later p h = none_least

-- while no task starts, the load doesn't rise
pub load_since : (tasks : List Info) (time before : ℤ) → before ≤ℤ time
    → AreStarts (λ b. b ≤ℤ time → b ≤ℤ before) tasks
    → load_of tasks time ≤ℤ load_of tasks before
load_since (s ∷ l ∷ d ∷ tasks) time before p h =
    add_le _ _ _ _
    (part_grows _ _ _ _ _ _ _ _ (λ a b. (h.0 a, through b)) (demand_least d)
    (same (demand_of d))) (load_since tasks time before p h.1)
  where
    through : time <ℤ end_of s l → before <ℤ end_of s l
    through a = by (end_of s l) a
      where
        by : (b : ℤ) → time <ℤ b → before <ℤ b
        by b q = omega (arith, ints)

    same : (a : ℤ) → a ≤ℤ a
    same a = omega (arith, ints)
load_since tasks time before p h = none_least

-- ---- stretches with room

-- the tasks leave room at each time from the first up to the second, which is left out
abbrev pub IsOpen : List Info → ℤ → ℤ → ℤ → Type 0
IsOpen tasks room from to = (time : ℤ) → from ≤ℤ time → time <ℤ to → load_of tasks time ≤ℤ room

free_when : (tasks : List Info) (room from to time : ℤ)
    → (from <ℤ time → time <ℤ to → load_of tasks time ≤ℤ room)
    → is_free tasks room from to time ≡ true
free_when tasks room from to time h = by (int_le time from) refl (int_le to time) refl
  where
    by : (a : Bool) → int_le time from ≡ a → (b : Bool) → int_le to time ≡ b
        → ((a || b) || int_le (load_of tasks time) room) ≡ true
    by true e b f = refl
    by false e true f = refl
    by false e false f =
        le_true (load_of tasks time) room (h (omega (arith, ints)) (omega (arith, ints)))

free_leaves : (tasks : List Info) (room from to time : ℤ)
    → is_free tasks room from to time ≡ true → from <ℤ time → time <ℤ to
    → load_of tasks time ≤ℤ room
free_leaves tasks room from to time g p q =
    by (int_le time from) refl (int_le to time) refl (load_of tasks time)
    (int_le (load_of tasks time) room) refl g
  where
    by : (a : Bool) → int_le time from ≡ a → (b : Bool) → int_le to time ≡ b → (l : ℤ) (c : Bool)
        → int_le l room ≡ c → ((a || b) || c) ≡ true → l ≤ℤ room
    by true e b f l c k g = absurd (omega (arith, ints))
    by false e true f l c k g = absurd (omega (arith, ints))
    by false e false f l true k g = omega (arith, ints)
    by false e false f l false k g = absurd (never g)

pub open_keeps : (tasks starting : List Info) (room from to : ℤ) → IsOpen tasks room from to
    → keeps_room tasks starting room from to ≡ true
open_keeps tasks (s ∷ l ∷ d ∷ starting) room from to h =
    both_true _ _
    (free_when tasks room from to (high_of s) (λ p q. h (high_of s) (weaker (high_of s) p) q))
    (open_keeps tasks starting room from to h)
  where
    weaker : (b : ℤ) → from <ℤ b → from ≤ℤ b
    weaker b p = omega (arith, ints)
open_keeps tasks starting room from to h = refl

-- the last start of a task from `from` up to a time, and `from` where there is none
abbrev pub last_start : List Info → ℤ → ℤ → ℤ
last_start (start ∷ length ∷ demand ∷ tasks) from time =
    let last = last_start tasks from time in
    if int_lt last (high_of start) && int_le (high_of start) time then high_of start else last
last_start tasks from time = from

-- what holds where the start b is taken, and where it is not
pub by_start : (P : ℤ → Type 0) (b last time : ℤ) → (last <ℤ b → b ≤ℤ time → P b)
    → ((b ≤ℤ time → b ≤ℤ last) → P last)
    → P (if int_lt last b && int_le b time then b else last)
by_start P b last time h k = by (int_lt last b) refl (int_le b time) refl
  where
    by : (a : Bool) → int_lt last b ≡ a → (c : Bool) → int_le b time ≡ c
        → P (if a && c then b else last)
    by true e true f = h (omega (arith, ints)) (omega (arith, ints))
    by true e false f = k (λ q. absurd (omega (arith, ints)))
    by false e c f = k (λ q. omega (arith, ints))

-- this start lies from `from` up to the time, and no task starts between it and the time
record IsLastStart (tasks : List Info) (from time last : ℤ) : Type 0 where
  above : from ≤ℤ last
  below : last ≤ℤ time
  none_between : AreStarts (λ b. b ≤ℤ time → b ≤ℤ last) tasks

pub starts_weaker : (tasks : List Info) (P Q : ℤ → Type 0) → ((b : ℤ) → P b → Q b)
    → AreStarts P tasks → AreStarts Q tasks
starts_weaker (s ∷ l ∷ d ∷ tasks) P Q h p =
    (h (high_of s) p.0, starts_weaker tasks P Q h p.1)
starts_weaker tasks P Q h p = tt

last_start_is : (tasks : List Info) (from time : ℤ) → from ≤ℤ time
    → IsLastStart tasks from time (last_start tasks from time)
last_start_is (s ∷ l ∷ d ∷ tasks) from time p =
    let rest = last_start_is tasks from time p in
    let last = last_start tasks from time in
    by_start (IsLastStart (s ∷ l ∷ d ∷ tasks) from time) (high_of s) last time
    (λ q r. record {
      above = through from last (high_of s) rest.above q;
      below = r;
      none_between = (
        λ b. same (high_of s),
        starts_weaker tasks (λ b. b ≤ℤ time → b ≤ℤ last) (λ b. b ≤ℤ time → b ≤ℤ high_of s)
            (λ b k m. through b last (high_of s) (k m) q) rest.none_between,
      );
    }) (λ q. record {
      above = rest.above;
      below = rest.below;
      none_between = (q, rest.none_between);
    })
  where
    through : (a b c : ℤ) → a ≤ℤ b → b <ℤ c → a ≤ℤ c
    through a b c p q = omega (arith, ints)

    same : (a : ℤ) → a ≤ℤ a
    same a = omega (arith, ints)
last_start_is tasks from time p = record {
  above = omega (arith, ints);
  below = p;
  none_between = tt;
}

-- where there is room at `from` and at each start behind it, there is room at the last start up to
-- a time
room_at_last : (tasks starting : List Info) (room from to time : ℤ) → time <ℤ to
    → from ≤ℤ time → keeps_room tasks starting room from to ≡ true
    → load_of tasks from ≤ℤ room → load_of tasks (last_start starting from time) ≤ℤ room
room_at_last tasks (s ∷ l ∷ d ∷ starting) room from to time p m k h =
    let parts = and_parts (is_free tasks room from to (high_of s))
    (keeps_room tasks starting room from to) k in
    by_start (λ v. load_of tasks v ≤ℤ room) (high_of s) (last_start starting from time) time
    (λ q r. free_leaves tasks room from to (high_of s) parts.0
    (behind from (last_start starting from time) (high_of s)
    (last_start_is starting from time m).above q) (before (high_of s) r))
    (λ q. room_at_last tasks starting room from to time p m parts.1 h)
  where
    behind : (a b c : ℤ) → a ≤ℤ b → b <ℤ c → a <ℤ c
    behind a b c p q = omega (arith, ints)

    before : (b : ℤ) → b ≤ℤ time → b <ℤ to
    before b q = omega (arith, ints)
room_at_last tasks starting room from to time p m k h = h

pub keeps_opens : (tasks : List Info) (room from to : ℤ) → load_of tasks from ≤ℤ room
    → keeps_room tasks tasks room from to ≡ true → IsOpen tasks room from to
keeps_opens tasks room from to h k time p q =
    let last = last_start tasks from time in
    let is = last_start_is tasks from time p in
    le_trans (load_of tasks time) (load_of tasks last) room
    (load_since tasks time last is.below is.none_between)
    (room_at_last tasks tasks room from to time q p k h)
  where
    le_trans : (a b c : ℤ) → a ≤ℤ b → b ≤ℤ c → a ≤ℤ c
    le_trans a b c p q = omega (arith, ints)
