-- The laws of when a task may start beside others.
use Rattle.std.specs.Prelude.{◌≡◌, ℤ, pos, neg_ℤ, ◌+ℤ◌, ◌-ℤ◌, ◌≤ℤ◌, ◌<ℤ◌, Bool, true, false}
use Rattle.std.specs.Prelude.{int_le, int_lt, ◌&&◌, ◌||◌, if◌then◌else◌, List, [], ◌∷◌}
use Rattle.std.specs.Int.{int_max}
use Rattle.std.proofs.Common.{arith, refl, rules, sym, subst, ◌∙◌}
use Rattle.std.proofs.lemmas.Bool.{and_parts}
use Rattle.std.proofs.lemmas.Int.{ints, by_lt_z}
use Rattle.prop_lattice.specs.Order.{Below}
use Rattle.prop_lattice.specs.Points.{Point, Number, Holds}
use Rattle.prop_lattice.specs.Rank.{IsOf}
use Rattle.prop_lattice.specs.declared.info.Info.{Info}
use Rattle.prop_lattice.specs.declared.info.Kind.TheVariants as kinds
use Rattle.prop_lattice.specs.declared.span.TheConstants.{B}
use Rattle.prop_wide.specs.Ends.{low_of, high_of}
use Rattle.prop_wide.specs.laws.EndLaws.{AreWithin, IsBetween, ends_ordered}
use Rattle.prop_wide.specs.laws.EndLaws.{known_below, known_holds, known_kind}
use Rattle.prop_many.specs.Cumulative.{RelatesCumulative, cumulative_of, first_of, fits}
use Rattle.prop_many.specs.Cumulative.{is_later, is_sooner, last_of, starts_of}
use Rattle.prop_many.specs.Loads.{demand_of, end_of, keeps_room, load_at, load_of}
use Rattle.prop_many.specs.laws.LoadLaws.{AreEndings, AreStarts, IsOpen, by_start, keeps_opens}
use Rattle.prop_many.specs.laws.LoadLaws.{load_kept, load_more, load_since, load_until}
use Rattle.prop_many.specs.laws.LoadLaws.{max_grows, open_keeps, starts_weaker}
use Rattle.prop_many.specs.laws.NumberLaws.{AreCloser, AreKept, both_true, le_true, never}

-- ---- to fit is to have room all the while

pub fits_opens : (tasks : List Info) (room length start : ℤ)
    → fits tasks room length start ≡ true → IsOpen tasks room start (start +ℤ length)
fits_opens tasks room length start = by (int_le length (pos 0)) refl
  where
    at_start : (l : ℤ) → int_le l room ≡ true → l ≤ℤ room
    at_start l e = omega (arith, ints)

    by : (a : Bool) → int_le length (pos 0) ≡ a
        → (a || (int_le (load_of tasks start) room
        && keeps_room tasks tasks room start (start +ℤ length))) ≡ true
        → IsOpen tasks room start (start +ℤ length)
    by true e f = λ time p q. absurd (omega (arith, ints))
    by false e f =
        let parts = and_parts (int_le (load_of tasks start) room)
        (keeps_room tasks tasks room start (start +ℤ length)) f in
        let here = at_start (load_of tasks start) parts.0 in
        keeps_opens tasks room start (start +ℤ length) here parts.1

pub open_fits : (tasks : List Info) (room length start : ℤ)
    → IsOpen tasks room start (start +ℤ length) → fits tasks room length start ≡ true
open_fits tasks room length start h = by (int_le length (pos 0)) refl
  where
    by : (a : Bool) → int_le length (pos 0) ≡ a
        → (a || (int_le (load_of tasks start) room
        && keeps_room tasks tasks room start (start +ℤ length))) ≡ true
    by true e = refl
    by false e = both_true _ _ (le_true (load_of tasks start) room
        (h start (omega (arith, ints)) (omega (arith, ints))))
        (open_keeps tasks tasks room start (start +ℤ length) h)

-- ---- the first start

-- what holds of one of two numbers, whichever is taken
by_taken : (P : ℤ → Type 0) (t : Bool) (a b : ℤ) → (t ≡ true → P a) → (t ≡ false → P b)
    → P (if t then a else b)
by_taken P true a b h k = h refl
by_taken P false a b h k = k refl

-- a start that is taken passes all three tests
ahead : (a b c d : ℤ) (f : Bool) → ((int_le a b && int_lt c d) && f) ≡ true
    → (a ≤ℤ b) × (c <ℤ d) × (f ≡ true)
ahead a b c d f = by (int_le a b) refl (int_lt c d) refl f
  where
    by : (t : Bool) → int_le a b ≡ t → (u : Bool) → int_lt c d ≡ u → (f : Bool)
        → ((t && u) && f) ≡ true → (a ≤ℤ b) × (c <ℤ d) × (f ≡ true)
    by true e true k true g = (omega (arith, ints), omega (arith, ints), refl)
    by true e true k false g = absurd (never g)
    by true e false k f g = absurd (never g)
    by false e u k f g = absurd (never g)

-- where a start is not taken, but passes the first test and the last, it fails the second
behind : (a b c d : ℤ) (f : Bool) → ((int_le a b && int_lt c d) && f) ≡ false
    → a ≤ℤ b → f ≡ true → d ≤ℤ c
behind a b c d f = by (int_le a b) refl (int_lt c d) refl f
  where
    by : (t : Bool) → int_le a b ≡ t → (u : Bool) → int_lt c d ≡ u → (f : Bool)
        → ((t && u) && f) ≡ false → a ≤ℤ b → f ≡ true → d ≤ℤ c
    by true e true k true g p q = absurd (never (sym g))
    by true e true k false g p q = absurd (never q)
    by true e false k f g p q = omega (arith, ints)
    by false e u k f g p q = absurd (omega (arith, ints))

-- the first start is no earlier than `low`, and it fits, or it is one past the range
pub record IsFirst (tasks : List Info) (room length low first : ℤ) : Type 0 where
  pub from : low ≤ℤ first
  pub fits_then : first ≤ℤ B → fits tasks room length first ≡ true
  pub within : first ≤ℤ (B +ℤ pos 1)

pub first_is : (tasks ending : List Info) (room length low : ℤ) → low ≤ℤ B
    → IsFirst tasks room length low (first_of tasks ending room length low)
first_is tasks (s ∷ l ∷ d ∷ ending) room length low p =
    let end = end_of s l in
    let first = first_of tasks ending room length low in
    let rest = first_is tasks ending room length low p in
    by_taken (IsFirst tasks room length low)
    ((int_le low end && int_lt end first) && fits tasks room length end) end first
    (λ t. let a = ahead low end end first (fits tasks room length end) t in record {
      from = a.0;
      fits_then = λ q. a.2;
      within = before end first a.1 rest.within;
    }) (λ t. rest)
  where
    before : (a b : ℤ) → a <ℤ b → b ≤ℤ (B +ℤ pos 1) → a ≤ℤ (B +ℤ pos 1)
    before a b p q = omega (arith, ints)
first_is tasks ending room length low p =
    by_taken (IsFirst tasks room length low) (fits tasks room length low) low (B +ℤ pos 1)
    (λ t. record {
      from = omega (arith, ints);
      fits_then = λ q. t;
      within = omega (arith, ints);
    }) (λ t. record {
      from = omega (arith, ints);
      fits_then = λ q. absurd (omega (arith, ints));
      within = omega (arith, ints);
    })

-- the last end of a task from `low` up to a time, and `low` where there is none
abbrev last_end : List Info → ℤ → ℤ → ℤ
last_end (start ∷ length ∷ demand ∷ tasks) low time =
    let last = last_end tasks low time in
    let end = end_of start length in
    if int_lt last end && int_le end time then end else last
last_end tasks low time = low

-- this end lies from `low` up to the time, and no task ends between it and the time
record IsLastEnd (tasks : List Info) (low time last : ℤ) : Type 0 where
  above : low ≤ℤ last
  below : last ≤ℤ time
  none_between : AreEndings (λ e. e ≤ℤ time → e ≤ℤ last) tasks

endings_weaker : (tasks : List Info) (P Q : ℤ → Type 0) → ((e : ℤ) → P e → Q e)
    → AreEndings P tasks → AreEndings Q tasks
endings_weaker (s ∷ l ∷ d ∷ tasks) P Q h p =
    (h (end_of s l) p.0, endings_weaker tasks P Q h p.1)
endings_weaker tasks P Q h p = tt

last_end_is : (tasks : List Info) (low time : ℤ) → low ≤ℤ time
    → IsLastEnd tasks low time (last_end tasks low time)
last_end_is (s ∷ l ∷ d ∷ tasks) low time p =
    let rest = last_end_is tasks low time p in
    let last = last_end tasks low time in
    by_start (IsLastEnd (s ∷ l ∷ d ∷ tasks) low time) (end_of s l) last time
    (λ q r. record {
      above = through low last (end_of s l) rest.above q;
      below = r;
      none_between = (
        λ b. same (end_of s l),
        endings_weaker tasks (λ e. e ≤ℤ time → e ≤ℤ last) (λ e. e ≤ℤ time → e ≤ℤ end_of s l)
            (λ e k m. through e last (end_of s l) (k m) q) rest.none_between,
      );
    }) (λ q. record {
      above = rest.above;
      below = rest.below;
      none_between = (q, rest.none_between);
    })
  where
    through : (a b c : ℤ) → a ≤ℤ b → b <ℤ c → a ≤ℤ c
    through a b c p q = omega (arith, ints)

    same : (a : ℤ) → a ≤ℤ a
    same a = omega (arith, ints)
last_end_is tasks low time p = record {
  above = omega (arith, ints);
  below = p;
  none_between = tt;
}

le_same : (a : ℤ) → a ≤ℤ a
le_same a = omega (arith, ints)

le_trans : (a b c : ℤ) → a ≤ℤ b → b ≤ℤ c → a ≤ℤ c
le_trans a b c p q = omega (arith, ints)

le_before : (a b c : ℤ) → a <ℤ b → b ≤ℤ c → a ≤ℤ c
le_before a b c p q = omega (arith, ints)

le_behind : (a b c : ℤ) → a ≤ℤ b → b <ℤ c → a ≤ℤ c
le_behind a b c p q = omega (arith, ints)

-- where the task fits at the last end, the first start is no later than that
first_at_last : (tasks ending : List Info) (room length low time : ℤ) → low ≤ℤ time
    → fits tasks room length (last_end ending low time) ≡ true
    → first_of tasks ending room length low ≤ℤ last_end ending low time
first_at_last tasks (s ∷ l ∷ d ∷ ending) room length low time p =
    let end = end_of s l in
    let first = first_of tasks ending room length low in
    let last = last_end ending low time in
    let taken = is_sooner tasks room length low end first in
    let rest = first_at_last tasks ending room length low time p in
    by_start (λ v. fits tasks room length v ≡ true → (if taken then end else first) ≤ℤ v) end last
    time (λ q r f. by_taken (λ w. w ≤ℤ end) taken end first (λ t. le_same end)
    (λ t. behind low end end first (fits tasks room length end) t (le_behind low last end
    (last_end_is ending low time p).above q) f))
    (λ q f. by_taken (λ w. w ≤ℤ last) taken end first
    (λ t. le_before end first last (ahead low end end first (fits tasks room length end) t).1
    (rest f)) (λ t. rest f))
first_at_last tasks ending room length low time p = λ f.
    by_taken (λ w. w ≤ℤ low) (fits tasks room length low) low (B +ℤ pos 1) (λ t. le_same low)
    (λ t. absurd (never (sym t ∙ f)))

-- so the first start is no later than any from `low` on at which there is room all the while
pub first_least : (tasks : List Info) (room length low start : ℤ) → low ≤ℤ start
    → IsOpen tasks room start (start +ℤ length)
    → first_of tasks tasks room length low ≤ℤ start
first_least tasks room length low start p h =
    le_trans (first_of tasks tasks room length low) last start
    (first_at_last tasks tasks room length low start p (open_fits tasks room length last is_open))
    is.below
  where
    last : ℤ
    last = last_end tasks low start

    is : IsLastEnd tasks low start last
    is = last_end_is tasks low start p

    none_ends : (time : ℤ) → last ≤ℤ time → (e : ℤ) → (e ≤ℤ start → e ≤ℤ last) → time <ℤ e
        → start <ℤ e
    none_ends time a e k b =
        by_lt_z start e (λ l. l) (λ g. let m = k g in absurd (omega (arith, ints)))

    is_open : IsOpen tasks room last (last +ℤ length)
    is_open time a b = by_lt_z time start
        (λ l. le_trans (load_of tasks time) (load_of tasks start) room
        (load_until tasks time start (le_before time start start l (le_same start))
        (endings_weaker tasks (λ e. e ≤ℤ start → e ≤ℤ last) (λ e. time <ℤ e → start <ℤ e)
        (none_ends time a) is.none_between))
        (h start (le_same start) (lasts time last a b)))
        (λ g. h time g (ends time last is.below b))
      where
        lasts : (t v : ℤ) → v ≤ℤ t → t <ℤ (v +ℤ length) → start <ℤ (start +ℤ length)
        lasts t v a b = omega (arith, ints)

        ends : (t v : ℤ) → v ≤ℤ start → t <ℤ (v +ℤ length) → t <ℤ (start +ℤ length)
        ends t v a b = omega (arith, ints)

-- ---- the last start

-- the last start is no later than `high`, and it fits, or it is one before the range
pub record IsLast (tasks : List Info) (room length high last : ℤ) : Type 0 where
  pub to : last ≤ℤ high
  pub fits_then : neg_ℤ B ≤ℤ last → fits tasks room length last ≡ true
  pub within : (neg_ℤ B -ℤ pos 1) ≤ℤ last

pub last_is : (tasks starting : List Info) (room length high : ℤ) → neg_ℤ B ≤ℤ high
    → IsLast tasks room length high (last_of tasks starting room length high)
last_is tasks (s ∷ l ∷ d ∷ starting) room length high p =
    let before = high_of s -ℤ length in
    let last = last_of tasks starting room length high in
    let rest = last_is tasks starting room length high p in
    by_taken (IsLast tasks room length high)
    ((int_le before high && int_lt last before) && fits tasks room length before) before last
    (λ t. let a = ahead before high last before (fits tasks room length before) t in record {
      to = a.0;
      fits_then = λ q. a.2;
      within = le_behind (neg_ℤ B -ℤ pos 1) last before rest.within a.1;
    }) (λ t. rest)
last_is tasks starting room length high p =
    by_taken (IsLast tasks room length high) (fits tasks room length high) high
    (neg_ℤ B -ℤ pos 1)
    (λ t. record {
      to = omega (arith, ints);
      fits_then = λ q. t;
      within = omega (arith, ints);
    }) (λ t. record {
      to = omega (arith, ints);
      fits_then = λ q. absurd (omega (arith, ints));
      within = omega (arith, ints);
    })

-- the first of the starts from a time up to `high` from which the task ends where another starts,
-- and `high` where there is none
abbrev next_start : List Info → ℤ → ℤ → ℤ → ℤ
next_start (start ∷ long ∷ demand ∷ tasks) length time high =
    let next = next_start tasks length time high in
    let before = high_of start -ℤ length in
    if int_le time before && int_lt before next then before else next
next_start tasks length time high = high

by_next : (P : ℤ → Type 0) (b next time : ℤ) → (time ≤ℤ b → b <ℤ next → P b)
    → ((time ≤ℤ b → next ≤ℤ b) → P next)
    → P (if int_le time b && int_lt b next then b else next)
by_next P b next time h k = by (int_le time b) refl (int_lt b next) refl
  where
    by : (a : Bool) → int_le time b ≡ a → (c : Bool) → int_lt b next ≡ c
        → P (if a && c then b else next)
    by true e true f = h (omega (arith, ints)) (omega (arith, ints))
    by true e false f = k (λ q. omega (arith, ints))
    by false e c f = k (λ q. absurd (omega (arith, ints)))

-- this start lies from the time up to `high`, and no such start lies between the time and it
record IsNext (tasks : List Info) (length time high next : ℤ) : Type 0 where
  above : time ≤ℤ next
  below : next ≤ℤ high
  none_between : AreStarts (λ b. time ≤ℤ (b -ℤ length) → next ≤ℤ (b -ℤ length)) tasks

next_is : (tasks : List Info) (length time high : ℤ) → time ≤ℤ high
    → IsNext tasks length time high (next_start tasks length time high)
next_is (s ∷ l ∷ d ∷ tasks) length time high p =
    let rest = next_is tasks length time high p in
    let next = next_start tasks length time high in
    let before = high_of s -ℤ length in
    by_next (IsNext (s ∷ l ∷ d ∷ tasks) length time high) before next time
    (λ q r. record {
      above = q;
      below = le_before before next high r rest.below;
      none_between = (
        λ b. le_same before,
        starts_weaker tasks (λ b. time ≤ℤ (b -ℤ length) → next ≤ℤ (b -ℤ length))
            (λ b. time ≤ℤ (b -ℤ length) → before ≤ℤ (b -ℤ length))
            (λ b k m. le_before before next (b -ℤ length) r (k m)) rest.none_between,
      );
    }) (λ q. record {
      above = rest.above;
      below = rest.below;
      none_between = (q, rest.none_between);
    })
next_is tasks length time high p = record {
  above = p;
  below = le_same high;
  none_between = tt;
}

-- where the task fits at that next start, the last start is no earlier
last_at_next : (tasks starting : List Info) (room length high time : ℤ) → time ≤ℤ high
    → fits tasks room length (next_start starting length time high) ≡ true
    → next_start starting length time high ≤ℤ last_of tasks starting room length high
last_at_next tasks (s ∷ l ∷ d ∷ starting) room length high time p =
    let before = high_of s -ℤ length in
    let last = last_of tasks starting room length high in
    let next = next_start starting length time high in
    let taken = is_later tasks room length high before last in
    let rest = last_at_next tasks starting room length high time p in
    by_next (λ v. fits tasks room length v ≡ true → v ≤ℤ (if taken then before else last)) before
    next time (λ q r f. by_taken (λ w. before ≤ℤ w) taken before last (λ t. le_same before)
    (λ t. behind before high last before (fits tasks room length before) t
    (le_before before next high r (next_is starting length time high p).below) f))
    (λ q f. by_taken (λ w. next ≤ℤ w) taken before last
    (λ t. le_behind next last before (rest f)
    (ahead before high last before (fits tasks room length before) t).1) (λ t. rest f))
last_at_next tasks starting room length high time p = λ f.
    by_taken (λ w. high ≤ℤ w) (fits tasks room length high) high (neg_ℤ B -ℤ pos 1)
    (λ t. le_same high) (λ t. absurd (never (sym t ∙ f)))

-- so the last start is no earlier than any up to `high` at which there is room all the while
pub last_most : (tasks : List Info) (room length high start : ℤ) → start ≤ℤ high
    → IsOpen tasks room start (start +ℤ length)
    → start ≤ℤ last_of tasks tasks room length high
last_most tasks room length high start p h =
    le_trans start next (last_of tasks tasks room length high) is.above
    (last_at_next tasks tasks room length high start p (open_fits tasks room length next is_open))
  where
    next : ℤ
    next = next_start tasks length start high

    is : IsNext tasks length start high next
    is = next_is tasks length start high p

    -- the last time at which the task runs from this start
    edge : ℤ
    edge = (start +ℤ length) -ℤ pos 1

    none_starts : (time : ℤ) → time <ℤ (next +ℤ length) → (b : ℤ)
        → (start ≤ℤ (b -ℤ length) → next ≤ℤ (b -ℤ length)) → b ≤ℤ time → b ≤ℤ edge
    none_starts time c b k m = by_lt_z (b -ℤ length) start
        (λ l. omega (arith, ints)) (λ g. let n = k g in absurd (out next n c))
      where
        out : (v : ℤ) → v ≤ℤ (b -ℤ length) → time <ℤ (v +ℤ length) → ⊥
        out v n q = omega (arith, ints)

    is_open : IsOpen tasks room next (next +ℤ length)
    is_open time a b = by_lt_z time (start +ℤ length)
        (λ l. h time (le_trans start next time is.above a) l)
        (λ g. le_trans (load_of tasks time) (load_of tasks edge) room
        (load_since tasks time edge (up_to time g)
        (starts_weaker tasks (λ b. start ≤ℤ (b -ℤ length) → next ≤ℤ (b -ℤ length))
        (λ b. b ≤ℤ time → b ≤ℤ edge) (none_starts time b) is.none_between))
        (h edge (from time next a b) (omega (arith, ints))))
      where
        up_to : (t : ℤ) → (start +ℤ length) ≤ℤ t → edge ≤ℤ t
        up_to t g = omega (arith, ints)

        from : (t v : ℤ) → v ≤ℤ t → t <ℤ (v +ℤ length) → start ≤ℤ edge
        from t v a b = omega (arith, ints)

-- ---- the starts

first_grows : (olds news : List Info) (room room' length length' low low' : ℤ)
    → AreCloser olds news → room' ≤ℤ room → length ≤ℤ length' → low ≤ℤ low' → low ≤ℤ B
    → low' ≤ℤ B
    → first_of olds olds room length low ≤ℤ first_of news news room' length' low'
first_grows olds news room room' length length' low low' c p q r i j =
    by_lt_z B first
    (λ l. past (first_of olds olds room length low) first
    (first_is olds olds room length low i).within l)
    (λ g. first_least olds room length low first (le_trans low low' first r is.from)
    (wider (fits_opens news room' length' first (is.fits_then g))))
  where
    first : ℤ
    first = first_of news news room' length' low'

    is : IsFirst news room' length' low' first
    is = first_is news news room' length' low' j

    past : (a b : ℤ) → a ≤ℤ (B +ℤ pos 1) → B <ℤ b → a ≤ℤ b
    past a b p q = omega (arith, ints)

    wider : IsOpen news room' first (first +ℤ length')
        → IsOpen olds room first (first +ℤ length)
    wider h time a b = le_trans (load_of olds time) room' room
        (le_trans (load_of olds time) (load_of news time) room' (load_more olds news c time)
        (h time a (later first b))) p
      where
        later : (v : ℤ) → time <ℤ (v +ℤ length) → time <ℤ (v +ℤ length')
        later v b = omega (arith, ints)

last_shrinks : (olds news : List Info) (room room' length length' high high' : ℤ)
    → AreCloser olds news → room' ≤ℤ room → length ≤ℤ length' → high' ≤ℤ high
    → neg_ℤ B ≤ℤ high → neg_ℤ B ≤ℤ high'
    → last_of news news room' length' high' ≤ℤ last_of olds olds room length high
last_shrinks olds news room room' length length' high high' c p q r i j =
    by_lt_z last (neg_ℤ B)
    (λ l. past (last_of olds olds room length high) last
    (last_is olds olds room length high i).within l)
    (λ g. last_most olds room length high last (le_trans last high' high is.to r)
    (wider (fits_opens news room' length' last (is.fits_then g))))
  where
    last : ℤ
    last = last_of news news room' length' high'

    is : IsLast news room' length' high' last
    is = last_is news news room' length' high' j

    past : (a b : ℤ) → (neg_ℤ B -ℤ pos 1) ≤ℤ a → b <ℤ neg_ℤ B → b ≤ℤ a
    past a b p q = omega (arith, ints)

    wider : IsOpen news room' last (last +ℤ length')
        → IsOpen olds room last (last +ℤ length)
    wider h time a b = le_trans (load_of olds time) room' room
        (le_trans (load_of olds time) (load_of news time) room' (load_more olds news c time)
        (h time a (later last b))) p
      where
        later : (v : ℤ) → time <ℤ (v +ℤ length) → time <ℤ (v +ℤ length')
        later v b = omega (arith, ints)

pub low_in_range : (a : Info) → low_of a ≤ℤ B
low_in_range a =
    let o = ends_ordered a in le_trans (low_of a) (high_of a) B o.ordered o.below

pub high_in_range : (a : Info) → neg_ℤ B ≤ℤ high_of a
high_in_range a =
    let o = ends_ordered a in le_trans (neg_ℤ B) (low_of a) (high_of a) o.above o.ordered

pub starts_below : (olds news : List Info) (room room' length length' : ℤ) (start start' : Info)
    → AreCloser olds news → room' ≤ℤ room → length ≤ℤ length' → AreWithin start start'
    → Below (starts_of olds room length start) (starts_of news room' length' start')
starts_below olds news room room' length length' start start' c p q a =
    known_below _ _ _ _
    (first_grows olds news room room' length length' (low_of start) (low_of start') c p q a.low
    (low_in_range start) (low_in_range start'))
    (last_shrinks olds news room room' length length' (high_of start) (high_of start') c p q a.high
    (high_in_range start) (high_in_range start'))

-- ---- the rule

pub cumulative_below : (olds news : List Info) → AreCloser olds news
    → Below (cumulative_of olds) (cumulative_of news)
cumulative_below (c ∷ s ∷ l ∷ d ∷ olds) (c' ∷ s' ∷ l' ∷ d' ∷ news) p =
    starts_below olds news _ _ _ _ s s' p.1.1.1.1
    (less (high_of c) (high_of c') (demand_of d) (demand_of d') p.0.high
    (max_grows (low_of d) (low_of d') p.1.1.1.0.low)) p.1.1.0.low p.1.0
  where
    less : (a b e f : ℤ) → b ≤ℤ a → e ≤ℤ f → (b -ℤ f) ≤ℤ (a -ℤ e)
    less a b e f p q = omega (arith, ints)
cumulative_below (c ∷ s ∷ l ∷ d ∷ olds) [] p = absurd p
cumulative_below (c ∷ s ∷ l ∷ d ∷ olds) (c' ∷ []) p = absurd p.1
cumulative_below (c ∷ s ∷ l ∷ d ∷ olds) (c' ∷ s' ∷ []) p = absurd p.1.1
cumulative_below (c ∷ s ∷ l ∷ d ∷ olds) (c' ∷ s' ∷ l' ∷ []) p = absurd p.1.1.1
cumulative_below olds news p = tt

pub cumulative_kind : (args : List Info) → IsOf kinds.Span 0 (cumulative_of args)
cumulative_kind (c ∷ s ∷ l ∷ d ∷ tasks) = known_kind 0 _ _
cumulative_kind args = tt

starts_hold : (tasks : List Info) (room length : ℤ) (start : Info) (v : ℤ) → IsBetween start v
    → IsOpen tasks room v (v +ℤ length) → Holds (starts_of tasks room length start) (Number v)
starts_hold tasks room length start v b h =
    let o = ends_ordered start in
    known_holds _ _ v (first_least tasks room length (low_of start) v b.from h)
    (last_most tasks room length (high_of start) v b.to h)
    (le_trans (neg_ℤ B) (low_of start) v o.above b.from, le_trans v (high_of start) B b.to o.below)

pub cumulative_holds : (args : List Info) (points : List Point) (point : Point)
    → AreKept args points → RelatesCumulative points point → Holds (cumulative_of args) point
cumulative_holds (c ∷ s ∷ l ∷ d ∷ tasks) (Number u ∷ Number v ∷ Number w ∷ Number x ∷ points) point
    k r =
    subst (Holds (cumulative_of (c ∷ s ∷ l ∷ d ∷ tasks))) (sym r.0)
    (starts_hold tasks _ _ s v k.1.0 is_open)
  where
    under : (load all demand most c high : ℤ) → load ≤ℤ all → (demand +ℤ all) ≤ℤ c → c ≤ℤ high
        → most ≤ℤ demand → load ≤ℤ (high -ℤ most)
    under load all demand most c high p q r s = omega (arith, ints)

    is_open : IsOpen tasks (high_of c -ℤ demand_of d) v (v +ℤ low_of l)
    is_open time p q = under (load_of tasks time) (load_at points time) (int_max x (pos 0))
        (demand_of d) u (high_of c) (load_kept tasks points k.1.1.1.1 time)
        (r.1 time p (longer (low_of l) k.1.1.0.from q)) k.0.to
        (max_grows (low_of d) x k.1.1.1.0.from)
      where
        longer : (m : ℤ) → m ≤ℤ w → time <ℤ (v +ℤ m) → time <ℤ (v +ℤ w)
        longer m p q = omega (arith, ints)
cumulative_holds args points point k r = search rules
