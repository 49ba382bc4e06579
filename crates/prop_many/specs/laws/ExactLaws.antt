-- The laws of answers to single numbers.
use Rattle.std.specs.Prelude.{◌≡◌, ◌⊎◌, ◌≤◌, ℤ, pos, neg_ℤ, ◌+ℤ◌, ◌-ℤ◌, ◌≤ℤ◌, ◌<ℤ◌, Bool, true}
use Rattle.std.specs.Prelude.{false, int_le, int_lt, ◌&&◌, if◌then◌else◌, List, [], ◌∷◌, length}
use Rattle.std.specs.Int.{int_max, int_min}
use Rattle.std.proofs.Common.{◌∙◌, arith, refl, rules, subst, sym, ap, inl, inr}
use Rattle.std.proofs.lemmas.Int.{ints, clamps}
use Rattle.prop_hall.specs.Points.{AreDifferent, IsNoneOf}
use Rattle.prop_intervals.specs.Clip.{clip}
use Rattle.prop_intervals.specs.laws.Relations.{IsInRange}
use Rattle.prop_lattice.specs.Ends.{AreEnds, ends_or_not, span_from}
use Rattle.prop_lattice.specs.inner.Ends.{span_if}
use Rattle.prop_lattice.specs.Points.{Point, Number, Element, Symbol, Holds}
use Rattle.prop_lattice.specs.declared.info.Info.{Info}
use Rattle.prop_lattice.specs.declared.info.Info.TheVariants.{Nothing, Contradiction}
use Rattle.prop_lattice.specs.declared.span.TheConstants.{B}
use Rattle.prop_wide.specs.Ends.{low_of, high_of, known}
use Rattle.prop_many.specs.Cumulative.{RelatesCumulative, cumulative_of, first_of, last_of}
use Rattle.prop_many.specs.Cumulative.{starts_of}
use Rattle.prop_many.specs.Disjoint.{IsApart, RelatesDisjoint, disjoint_of, earliest_of}
use Rattle.prop_many.specs.Disjoint.{is_behind, latest_of, start_before}
use Rattle.prop_many.specs.Differ.{RelatesDiffer, any_crowded, before_all, differ_of, lying_in}
use Rattle.prop_many.specs.Differ.{past_all}
use Rattle.prop_many.specs.Exact.{AreJust}
use Rattle.prop_many.specs.Loads.{demand_of, end_of, load_at, load_of, part_at}
use Rattle.prop_many.specs.laws.CumulativeLaws.{first_is, fits_opens, high_in_range, last_is}
use Rattle.prop_many.specs.laws.CumulativeLaws.{low_in_range}
use Rattle.prop_many.specs.laws.DifferLaws.{IsShown, before_all_below, no_two, past_all_above}
use Rattle.prop_many.specs.laws.DifferLaws.{shown_here, shown_later, shown_past, single_lies}
use Rattle.prop_many.specs.laws.DisjointLaws.{lt_true}
use Rattle.prop_many.specs.laws.LoadLaws.{IsOpen}
use Rattle.prop_many.specs.laws.NumberLaws.{both_true, never}

-- ---- what is held lies between the ends

span_from_held : (lo hi v : ℤ) → Holds (span_from lo hi) (Number v) → (lo ≤ℤ v) × (v ≤ℤ hi)
unfolding span_from
span_from_held lo hi v h = by (ends_or_not lo hi) h
  where
    by : (d : AreEnds lo hi ⊎ ¬ (AreEnds lo hi)) → Holds (span_if lo hi d) (Number v)
        → (lo ≤ℤ v) × (v ≤ℤ hi)
    by (inl d) h = h
    by (inr f) h = absurd h

clip_held : (lo hi v : ℤ) → Holds (clip lo hi) (Number v) → (lo ≤ℤ v) × (v ≤ℤ hi)
unfolding clip
clip_held lo hi v h =
    let held = span_from_held (int_max lo (neg_ℤ B)) (int_min hi B) v h in
    (omega (arith, ints, clamps, held.0), omega (arith, ints, clamps, held.1))

pub known_held : (lo hi v : ℤ) → IsInRange v → Holds (known lo hi) (Number v)
    → (lo ≤ℤ v) × (v ≤ℤ hi)
unfolding known
known_held lo hi v r = by (int_le lo (neg_ℤ B)) refl (int_le B hi) refl
  where
    by : (s : Bool) → int_le lo (neg_ℤ B) ≡ s → (t : Bool) → int_le B hi ≡ t
        → Holds (if s && t then Nothing else clip lo hi) (Number v) → (lo ≤ℤ v) × (v ≤ℤ hi)
    by true e true f h = (omega (arith, ints, r.0), omega (arith, ints, r.1))
    by true e false f h = clip_held lo hi v h
    by false e t f h = clip_held lo hi v h

-- ---- tasks beside others

-- where all numbers are known, what the tasks take for sure is what they take
load_just : (tasks : List Info) (points : List Point) → AreJust tasks points → (time : ℤ)
    → load_of tasks time ≡ load_at points time
load_just (s ∷ l ∷ d ∷ tasks) (Number u ∷ Number v ∷ Number w ∷ points) e time =
    let rest = load_just tasks points e.1.1.1 time in
    (λ i. part_at (e.0.1 i) (e.0.0 i +ℤ e.1.0.0 i) (int_max (e.1.1.0.0 i) (pos 0)) time
    +ℤ rest i)
load_just (s ∷ l ∷ d ∷ tasks) points e time = search rules
load_just [] [] e time = refl
load_just (s ∷ []) (Number u ∷ []) e time = refl
load_just (s ∷ l ∷ []) (Number u ∷ Number v ∷ []) e time = refl
load_just [] (p ∷ points) e time = absurd e
load_just (s ∷ []) points e time = search rules
load_just (s ∷ l ∷ []) points e time = search rules

-- where the ends are one number, whatever lies between the first and the last is that number
between : (a b v first z last : ℤ) → a ≡ v → b ≡ v → a ≤ℤ first → first ≤ℤ z → z ≤ℤ last
    → last ≤ℤ b → (z ≡ v) × (first ≡ v)
between a b v first z last p q i j k m = (omega (arith, ints), omega (arith, ints))

starts_held : (tasks : List Info) (room length : ℤ) (start : Info) (v z : ℤ) → low_of start ≡ v
    → high_of start ≡ v → IsInRange z → Holds (starts_of tasks room length start) (Number z)
    → (z ≡ v) × IsOpen tasks room v (v +ℤ length)
starts_held tasks room length start v z p q r h =
    let first = first_of tasks tasks room length (low_of start) in
    let last = last_of tasks tasks room length (high_of start) in
    let held = known_held first last z r h in
    let is = first_is tasks tasks room length (low_of start) (low_in_range start) in
    let ends = last_is tasks tasks room length (high_of start) (high_in_range start) in
    let same = between (low_of start) (high_of start) v first z last p q is.from held.0 held.1
    ends.to in (
      same.0,
      subst (λ t. IsOpen tasks room t (t +ℤ length)) same.1
          (fits_opens tasks room length first
          (is.fits_then (through first z held.0 r.1))),
    )
  where
    through : (a b : ℤ) → a ≤ℤ b → b ≤ℤ B → a ≤ℤ B
    through a b p q = omega (arith, ints)

pub cumulative_exact : (args : List Info) (points : List Point) (z : ℤ) → 4 ≤ length args
    → AreJust args points → IsInRange z → Holds (cumulative_of args) (Number z)
    → RelatesCumulative points (Number z)
cumulative_exact (c ∷ s ∷ l ∷ d ∷ tasks) (Number u ∷ Number v ∷ Number w ∷ Number x ∷ points) z some
    e r h =
    let room = high_of c -ℤ demand_of d in
    let held = starts_held tasks room (low_of l) s v z e.1.0.0 e.1.0.1 r h in (
      ap Number held.0,
      λ time p q. under (load_of tasks time) (load_at points time) (int_max x (pos 0)) (demand_of d)
          u (high_of c) (load_just tasks points e.1.1.1.1 time) e.0.1
          (ap (λ t. int_max t (pos 0)) e.1.1.1.0.0)
          (held.1 time p (longer time (low_of l) e.1.1.0.0 q)),
    )
  where
    under : (load all demand most c high : ℤ) → load ≡ all → high ≡ c → most ≡ demand
        → load ≤ℤ (high -ℤ most) → (demand +ℤ all) ≤ℤ c
    under load all demand most c high p q r s = omega (arith, ints)

    longer : (time m : ℤ) → m ≡ w → time <ℤ (v +ℤ w) → time <ℤ (v +ℤ m)
    longer time m p q = omega (arith, ints)
cumulative_exact (c ∷ s ∷ l ∷ d ∷ tasks) points z some e r h = search rules
cumulative_exact [] points z some e r h = absurd (omega (arith, some))
cumulative_exact (c ∷ []) points z some e r h = absurd (omega (arith, some))
cumulative_exact (c ∷ s ∷ []) points z some e r h = absurd (omega (arith, some))
cumulative_exact (c ∷ s ∷ l ∷ []) points z some e r h = absurd (omega (arith, some))

-- ---- tasks apart

earliest_from : (s l : Info) (others : List Info) → low_of s ≤ℤ earliest_of s l others
earliest_from s l (o ∷ m ∷ others) =
    by (is_behind s l o m) (earliest_of s l others) (earliest_from s l others)
  where
    by : (t : Bool) (e : ℤ) → low_of s ≤ℤ e
        → low_of s ≤ℤ (if t then int_max e (end_of o m) else e)
    by true e p = past (low_of s) e (end_of o m) p
      where
        past : (a e x : ℤ) → a ≤ℤ e → a ≤ℤ int_max e x
        past a e x p = omega (arith, ints, clamps)
    by false e p = p
earliest_from s l (o ∷ []) = least (low_of s)
  where
    least : (a : ℤ) → a ≤ℤ a
    least a = omega (arith, ints)
earliest_from s l [] = least (low_of s)
  where
    least : (a : ℤ) → a ≤ℤ a
    least a = omega (arith, ints)

latest_to : (s l : Info) (others : List Info) → latest_of s l others ≤ℤ high_of s
latest_to s l (o ∷ m ∷ others) =
    by (is_behind o m s l) (latest_of s l others) (latest_to s l others)
  where
    by : (t : Bool) (e : ℤ) → e ≤ℤ high_of s
        → (if t then int_min e (start_before o l) else e) ≤ℤ high_of s
    by true e p = past (high_of s) e (start_before o l) p
      where
        past : (a e x : ℤ) → e ≤ℤ a → int_min e x ≤ℤ a
        past a e x p = omega (arith, ints, clamps)
    by false e p = p
latest_to s l (o ∷ []) = most (high_of s)
  where
    most : (a : ℤ) → a ≤ℤ a
    most a = omega (arith, ints)
latest_to s l [] = most (high_of s)
  where
    most : (a : ℤ) → a ≤ℤ a
    most a = omega (arith, ints)

no_more : (t : Bool) (e x v : ℤ) → (if t then int_max e x else e) ≤ℤ v
    → (e ≤ℤ v) × (t ≡ true → x ≤ℤ v)
no_more true e x v p = (omega (arith, ints, clamps), λ h. omega (arith, ints, clamps))
no_more false e x v p = (p, λ h. absurd (never h))

apart_from : (s l : Info) (v w : ℤ) (others : List Info) (points : List Point) → low_of s ≡ v
    → low_of l ≡ w → AreJust others points → earliest_of s l others ≤ℤ v → IsApart v w points
apart_from s l v w (o ∷ m ∷ others) (Number u ∷ Number x ∷ points) p q e h =
    let parts = no_more (is_behind s l o m) (earliest_of s l others) (end_of o m) v h in (
      λ time i j k n. over (low_of o) (low_of m) time e.0.0 e.1.0.0 i n
          (parts.1 (behind (low_of s) (low_of l) (high_of o) (low_of m) time p q e.0.1 e.1.0.0 i j k
          n)),
      apart_from s l v w others points p q e.1.1 parts.0,
    )
  where
    over : (a b time : ℤ) → a ≡ u → b ≡ x → v ≤ℤ time → time <ℤ (u +ℤ x) → (a +ℤ b) ≤ℤ v → ⊥
    over a b time p q i n h = omega (arith, ints)

    behind : (a b c f time : ℤ) → a ≡ v → b ≡ w → c ≡ u → f ≡ x → v ≤ℤ time → time <ℤ (v +ℤ w)
        → u ≤ℤ time → time <ℤ (u +ℤ x)
        → ((int_lt (pos 0) b && int_lt (pos 0) f) && int_lt c (a +ℤ b)) ≡ true
    behind a b c f time p q r s i j k n =
        both_true _ _
        (both_true _ _ (lt_true (pos 0) b (omega (arith, ints)))
        (lt_true (pos 0) f (omega (arith, ints)))) (lt_true c (a +ℤ b) (omega (arith, ints)))
apart_from s l v w (o ∷ m ∷ others) points p q e h = search rules
apart_from s l v w (o ∷ []) (Number u ∷ []) p q e h = tt
apart_from s l v w (o ∷ []) points p q e h = search rules
apart_from s l v w [] [] p q e h = tt
apart_from s l v w [] (u ∷ points) p q e h = absurd e

pub disjoint_exact : (args : List Info) (points : List Point) (z : ℤ) → 2 ≤ length args
    → AreJust args points → IsInRange z → Holds (disjoint_of args) (Number z)
    → RelatesDisjoint points (Number z)
disjoint_exact (s ∷ l ∷ others) (Number v ∷ Number w ∷ points) z some e r h =
    let earliest = earliest_of s l others in
    let latest = latest_of s l others in
    let held = known_held earliest latest z r h in
    let same = between (low_of s) (high_of s) v earliest z latest e.0.0 e.0.1
    (earliest_from s l others) held.0 held.1 (latest_to s l others) in (
      ap Number same.0,
      apart_from s l v w others points e.0.0 e.1.0.0 e.1.1 (equal earliest same.1),
    )
  where
    equal : (a : ℤ) → a ≡ v → a ≤ℤ v
    equal a p = omega (arith, ints)
disjoint_exact (s ∷ l ∷ others) points z some e r h = search rules
disjoint_exact [] points z some e r h = absurd (omega (arith, some))
disjoint_exact (s ∷ []) points z some e r h = absurd (omega (arith, some))

-- ---- numbers that are all different

numbers_same : (u v : ℤ) → Number u ≡ Number v → u ≡ v
numbers_same u v e = cc

none_of : (others : List Info) (points : List Point) (v : ℤ) → AreJust others points
    → (IsShown others v → ⊥) → IsNoneOf (Number v) points
none_of [] [] v e n = tt
none_of (o ∷ others) (Number u ∷ points) v e n = (
  λ same. n (shown_here o others v (e.0.0 ∙ sym (numbers_same v u same))
      (e.0.1 ∙ sym (numbers_same v u same))),
  none_of others points v e.1 (λ s. n (shown_later o others v s)),
)
none_of (o ∷ others) (Element i ∷ points) v e n = absurd e.0
none_of (o ∷ others) (Symbol i ∷ points) v e n = absurd e.0
none_of [] (p ∷ points) v e n = absurd e
none_of (o ∷ others) [] v e n = absurd e

all_differ : (others : List Info) (points : List Point) → AreJust others points
    → ((a : ℤ) → lying_in others a 1 ≤ 1) → AreDifferent points
all_differ [] [] e n = tt
all_differ (o ∷ others) (Number u ∷ points) e n = (
  none_of others points u e.1 (λ s. absurd (omega (
    arith,
    n u,
    s.lies,
    single_lies o u e.0.0 e.0.1,
  ))),
  all_differ others points e.1 (λ a. omega (arith, n a)),
)
all_differ (o ∷ others) (Element i ∷ points) e n = absurd e.0
all_differ (o ∷ others) (Symbol i ∷ points) e n = absurd e.0
all_differ [] (p ∷ points) e n = absurd e
all_differ (o ∷ others) [] e n = absurd e

not_both : (p v : ℤ) → v <ℤ p → p ≡ v → ⊥
not_both p v q e = omega (arith, ints)

pub differ_exact : (args : List Info) (points : List Point) (z : ℤ) → 1 ≤ length args
    → AreJust args points → IsInRange z → Holds (differ_of args) (Number z)
    → RelatesDiffer points (Number z)
differ_exact (o ∷ others) (Number v ∷ points) z some e r h =
    by (any_crowded others others) refl h
  where
    first : ℤ
    first = past_all others others (low_of o) (low_of o)

    last : ℤ
    last = before_all others others (high_of o) (high_of o)

    by : (t : Bool) → any_crowded others others ≡ t
        → Holds (if t then Contradiction else known first last) (Number z)
        → RelatesDiffer (Number v ∷ points) (Number z)
    by true f h = absurd h
    by false f h =
        let held = known_held first last z r h in
        let same = between (low_of o) (high_of o) v first z last e.0.0 e.0.1
        (past_all_above others others (low_of o) (low_of o)) held.0 held.1
        (before_all_below others others (high_of o) (high_of o)) in (
          ap Number same.0,
          (
            none_of others points v e.1
                (λ s. not_both first v (shown_past others (low_of o) v s e.0.0) same.1),
            all_differ others points e.1 (λ a. no_two others a f),
          ),
        )
differ_exact (o ∷ others) (Element i ∷ points) z some e r h = absurd e.0
differ_exact (o ∷ others) (Symbol i ∷ points) z some e r h = absurd e.0
differ_exact (o ∷ others) [] z some e r h = absurd e
differ_exact [] points z some e r h = absurd (omega (arith, some))
