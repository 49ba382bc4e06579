-- The laws of the larger and the smaller of two numbers.
use Rattle.std.specs.Prelude.{◌≡◌, ◌≢◌, ℤ, neg_ℤ, ◌≤ℤ◌, Bool, true, false, int_lt, if◌then◌else◌}
use Rattle.std.specs.Int.{int_max, int_min}
use Rattle.std.proofs.Common.{arith, refl}
use Rattle.std.proofs.lemmas.Int.{ints, clamps}
use Rattle.prop_intervals.specs.laws.Relations.{IsInRange}
use Rattle.prop_lattice.specs.Order.{Below}
use Rattle.prop_lattice.specs.laws.OrderLaws.{to_top}
use Rattle.prop_lattice.specs.Points.{Number, Holds}
use Rattle.prop_lattice.specs.Rank.{IsOf}
use Rattle.prop_lattice.specs.declared.span.TheConstants.{B}
use Rattle.prop_lattice.specs.declared.info.Info.{Info}
use Rattle.prop_lattice.specs.declared.info.Info.TheVariants.{Contradiction}
use Rattle.prop_lattice.specs.declared.info.Kind.TheVariants as kinds
use Rattle.prop_wide.specs.Ends.{low_of, high_of, known}
use Rattle.prop_wide.specs.Extremes.{max_of, max_back_of, min_of, min_back_of}
use Rattle.prop_wide.specs.laws.EndLaws.{AreOrdered, AreWithin, IsBetween}
use Rattle.prop_wide.specs.laws.EndLaws.{ends_ordered, ends_within, held_between, known_below}
use Rattle.prop_wide.specs.laws.EndLaws.{known_kind, known_holds}

max_grows : (a b c d : ℤ) → a ≤ℤ c → b ≤ℤ d → int_max a b ≤ℤ int_max c d
max_grows a b c d p q = omega (arith, ints, clamps)

min_grows : (a b c d : ℤ) → a ≤ℤ c → b ≤ℤ d → int_min a b ≤ℤ int_min c d
min_grows a b c d p q = omega (arith, ints, clamps)

-- ---- the larger

pub max_below : (x y x' y' : Info) → Below x x' → Below y y' → x' ≢ Contradiction
    → y' ≢ Contradiction → Below (max_of x y) (max_of x' y')
max_below x y x' y' p q n m =
    let a = ends_within x x' p n in
    let b = ends_within y y' q m in
    known_below _ _ _ _ (max_grows _ _ _ _ a.low b.low) (max_grows _ _ _ _ a.high b.high)

pub max_kind : (x y : Info) → IsOf kinds.Span 0 (max_of x y)
max_kind x y = known_kind 0 _ _

pub max_sound : (x y : Info) (u v w : ℤ) → Holds x (Number u) → Holds y (Number v) → IsInRange u
    → IsInRange v → IsInRange w → w ≡ int_max u v → Holds (max_of x y) (Number w)
max_sound x y u v w h k r s t e =
    let a = held_between x u h r in
    let b = held_between y v k s in
    known_holds _ _ w (rw e (max_grows _ _ _ _ a.from b.from)) (rw e
    (max_grows _ _ _ _ a.to b.to)) t

pub max_back_below : (z y z' y' : Info) → Below z z' → Below y y' → z' ≢ Contradiction
    → y' ≢ Contradiction → Below (max_back_of z y) (max_back_of z' y')
max_back_below z y z' y' p q n m =
    by (int_lt (high_of z) (low_of y)) refl (int_lt (high_of y) (low_of z)) refl
    (int_lt (high_of z') (low_of y')) refl (int_lt (high_of y') (low_of z')) refl
  where
    a : AreWithin z z'
    a = ends_within z z' p n

    b : AreWithin y y'
    b = ends_within y y' q m

    c : AreOrdered (low_of z') (high_of z')
    c = ends_ordered z'

    by : (s : Bool) → int_lt (high_of z) (low_of y) ≡ s → (t : Bool)
        → int_lt (high_of y) (low_of z) ≡ t → (s' : Bool) → int_lt (high_of z') (low_of y') ≡ s'
        → (t' : Bool) → int_lt (high_of y') (low_of z') ≡ t' →
        Below
        (if s then Contradiction else known (if t then low_of z else neg_ℤ B) (high_of z))
        (if s' then Contradiction else known (if t' then low_of z' else neg_ℤ B) (high_of z'))
    by s f t g true f' t' g' = to_top _
    by true f t g false f' t' g' = absurd (omega (arith, ints, a.high, b.low))
    by false f true g false f' true g' = known_below _ _ _ _ a.low a.high
    by false f true g false f' false g' = absurd (omega (arith, ints, a.low, b.high))
    by false f false g false f' true g' = known_below _ _ _ _ c.above a.high
    by false f false g false f' false g' = known_below _ _ _ _ (omega (arith, ints)) a.high

pub max_back_kind : (z y : Info) → IsOf kinds.Span 0 (max_back_of z y)
max_back_kind z y = by (int_lt (high_of z) (low_of y))
  where
    by : (s : Bool) → IsOf kinds.Span 0 (if s then Contradiction
        else known (if int_lt (high_of y) (low_of z) then low_of z else neg_ℤ B) (high_of z))
    by true = tt
    by false = known_kind 0 _ _

pub max_back_sound : (z y : Info) (w v u : ℤ) → Holds z (Number w) → Holds y (Number v)
    → IsInRange w → IsInRange v → IsInRange u → w ≡ int_max u v
    → Holds (max_back_of z y) (Number u)
max_back_sound z y w v u h k r s t e =
    by (int_lt (high_of z) (low_of y)) refl (int_lt (high_of y) (low_of z)) refl
  where
    a : IsBetween z w
    a = held_between z w h r

    b : IsBetween y v
    b = held_between y v k s

    by : (o : Bool) → int_lt (high_of z) (low_of y) ≡ o → (p : Bool)
        → int_lt (high_of y) (low_of z) ≡ p
        → Holds (if o then Contradiction
        else known (if p then low_of z else neg_ℤ B) (high_of z)) (Number u)
    by true f p g = absurd (omega (arith, ints, clamps, a.to, b.from))
    by false f true g = known_holds _ _ u (omega (arith, ints, clamps, a.from, b.to))
        (omega (arith, ints, clamps, a.to)) t
    by false f false g = known_holds _ _ u t.0 (omega (arith, ints, clamps, a.to)) t

-- ---- the smaller

pub min_below : (x y x' y' : Info) → Below x x' → Below y y' → x' ≢ Contradiction
    → y' ≢ Contradiction → Below (min_of x y) (min_of x' y')
min_below x y x' y' p q n m =
    let a = ends_within x x' p n in
    let b = ends_within y y' q m in
    known_below _ _ _ _ (min_grows _ _ _ _ a.low b.low) (min_grows _ _ _ _ a.high b.high)

pub min_kind : (x y : Info) → IsOf kinds.Span 0 (min_of x y)
min_kind x y = known_kind 0 _ _

pub min_sound : (x y : Info) (u v w : ℤ) → Holds x (Number u) → Holds y (Number v) → IsInRange u
    → IsInRange v → IsInRange w → w ≡ int_min u v → Holds (min_of x y) (Number w)
min_sound x y u v w h k r s t e =
    let a = held_between x u h r in
    let b = held_between y v k s in
    known_holds _ _ w (rw e (min_grows _ _ _ _ a.from b.from)) (rw e
    (min_grows _ _ _ _ a.to b.to)) t

pub min_back_below : (z y z' y' : Info) → Below z z' → Below y y' → z' ≢ Contradiction
    → y' ≢ Contradiction → Below (min_back_of z y) (min_back_of z' y')
min_back_below z y z' y' p q n m =
    by (int_lt (high_of y) (low_of z)) refl (int_lt (high_of z) (low_of y)) refl
    (int_lt (high_of y') (low_of z')) refl (int_lt (high_of z') (low_of y')) refl
  where
    a : AreWithin z z'
    a = ends_within z z' p n

    b : AreWithin y y'
    b = ends_within y y' q m

    c : AreOrdered (low_of z') (high_of z')
    c = ends_ordered z'

    by : (s : Bool) → int_lt (high_of y) (low_of z) ≡ s → (t : Bool)
        → int_lt (high_of z) (low_of y) ≡ t → (s' : Bool) → int_lt (high_of y') (low_of z') ≡ s'
        → (t' : Bool) → int_lt (high_of z') (low_of y') ≡ t' →
        Below
        (if s then Contradiction else known (low_of z) (if t then high_of z else B))
        (if s' then Contradiction else known (low_of z') (if t' then high_of z' else B))
    by s f t g true f' t' g' = to_top _
    by true f t g false f' t' g' = absurd (omega (arith, ints, a.low, b.high))
    by false f true g false f' true g' = known_below _ _ _ _ a.low a.high
    by false f true g false f' false g' = absurd (omega (arith, ints, a.high, b.low))
    by false f false g false f' true g' = known_below _ _ _ _ a.low c.below
    by false f false g false f' false g' = known_below _ _ _ _ a.low (omega (arith, ints))

pub min_back_kind : (z y : Info) → IsOf kinds.Span 0 (min_back_of z y)
min_back_kind z y = by (int_lt (high_of y) (low_of z))
  where
    by : (s : Bool) → IsOf kinds.Span 0 (if s then Contradiction
        else known (low_of z) (if int_lt (high_of z) (low_of y) then high_of z else B))
    by true = tt
    by false = known_kind 0 _ _

pub min_back_sound : (z y : Info) (w v u : ℤ) → Holds z (Number w) → Holds y (Number v)
    → IsInRange w → IsInRange v → IsInRange u → w ≡ int_min u v
    → Holds (min_back_of z y) (Number u)
min_back_sound z y w v u h k r s t e =
    by (int_lt (high_of y) (low_of z)) refl (int_lt (high_of z) (low_of y)) refl
  where
    a : IsBetween z w
    a = held_between z w h r

    b : IsBetween y v
    b = held_between y v k s

    by : (o : Bool) → int_lt (high_of y) (low_of z) ≡ o → (p : Bool)
        → int_lt (high_of z) (low_of y) ≡ p
        → Holds (if o then Contradiction
        else known (low_of z) (if p then high_of z else B)) (Number u)
    by true f p g = absurd (omega (arith, ints, clamps, a.from, b.to))
    by false f true g = known_holds _ _ u (omega (arith, ints, clamps, a.from))
        (omega (arith, ints, clamps, a.to, b.from)) t
    by false f false g = known_holds _ _ u (omega (arith, ints, clamps, a.from)) t.1 t
