-- The laws of the greatest and the least of numbers.
use Rattle.std.specs.Prelude.{◌≡◌, ◌≢◌, ℤ, neg_ℤ, ◌≤ℤ◌, Bool, true, false, int_lt, List, [], ◌∷◌}
use Rattle.std.specs.Prelude.{if◌then◌else◌}
use Rattle.std.specs.Int.{int_max, int_min}
use Rattle.std.proofs.Common.{arith, refl, rules}
use Rattle.std.proofs.lemmas.Int.{ints, clamps}
use Rattle.prop_intervals.specs.laws.Relations.{IsInRange}
use Rattle.prop_lattice.specs.Order.{Below}
use Rattle.prop_lattice.specs.laws.OrderLaws.{to_top}
use Rattle.prop_lattice.specs.Points.{Point, Number, Element, Symbol, Holds, IsPointOf}
use Rattle.prop_lattice.specs.Rank.{IsOf}
use Rattle.prop_lattice.specs.declared.info.Info.{Info}
use Rattle.prop_lattice.specs.declared.info.Info.TheVariants.{Contradiction}
use Rattle.prop_lattice.specs.declared.info.Kind.TheVariants as kinds
use Rattle.prop_lattice.specs.declared.span.TheConstants.{B}
use Rattle.prop_procedures.specs.declared.shape.Kinded.{Kinded}
use Rattle.prop_procedures.specs.declared.shape.Shape.{Shape}
use Rattle.prop_procedures.specs.Rules.{EachBelow, EachHolds, AreClear}
use Rattle.prop_procedures.specs.inner.Places.{ArePointsOf}
use Rattle.prop_rows.specs.Extremes.{bottom, greatest_at, greatest_back_of, greatest_of, least_at}
use Rattle.prop_rows.specs.Extremes.{least_back_of, least_of, top, RelatesGreatest, RelatesLeast}
use Rattle.prop_rows.specs.Row.{AreSpans}
use Rattle.prop_rows.specs.laws.SumLaws.{first_is_span, others_are_spans}
use Rattle.prop_wide.specs.Ends.{low_of, high_of, known}
use Rattle.prop_wide.specs.laws.EndLaws.{AreOrdered, ends_ordered, ends_within}
use Rattle.prop_wide.specs.laws.EndLaws.{held_between, known_below, known_holds, known_kind}

-- ---- the greatest

max_grows : (a b c d : ℤ) → a ≤ℤ c → b ≤ℤ d → int_max a b ≤ℤ int_max c d
max_grows a b c d p q = omega (arith, ints, clamps)

-- where more is known of the numbers, the ends of the greatest are closer
tops_within : (olds news : List Info) → EachBelow olds news → AreClear news
    → (top low_of olds ≤ℤ top low_of news) × (top high_of news ≤ℤ top high_of olds)
tops_within [] [] p n = (omega (arith, ints), omega (arith, ints))
tops_within (x ∷ olds) (x' ∷ news) p n =
    let rest = tops_within olds news p.1 n.1 in
    let here = ends_within x x' p.0 n.0 in
    (max_grows _ _ _ _ here.low rest.0, max_grows _ _ _ _ here.high rest.1)
tops_within olds news p n = search rules

pub greatest_below : (olds news : List Info) → EachBelow olds news → AreClear news
    → Below (greatest_of olds) (greatest_of news)
greatest_below olds news p n =
    let t = tops_within olds news p n in
    known_below _ _ _ _ t.0 t.1

pub greatest_kind : (args : List Info) → IsOf kinds.Span 0 (greatest_of args)
greatest_kind args = known_kind 0 _ _

-- the greatest of points that are left lies between the two ends
pub tops_hold : (any : Shape → Kinded) (ins : List Shape) (args : List Info) (points : List Point)
    → AreSpans ins → ArePointsOf any ins points → EachHolds args points
    → (top low_of args ≤ℤ greatest_at points) × (greatest_at points ≤ℤ top high_of args)
tops_hold any ins [] [] f ps e = (omega (arith, ints), omega (arith, ints))
tops_hold any (s ∷ ins) (x ∷ args) (p ∷ points) f ps e =
    by (tops_hold any ins args points (others_are_spans s ins f) ps.1 e.1) p
    (rw (first_is_span s ins f) at ps.0) e.0
  where
    by : (top low_of args ≤ℤ greatest_at points) × (greatest_at points ≤ℤ top high_of args)
        → (p : Point) → IsPointOf kinds.Span 0 p → Holds x p
        → (top low_of (x ∷ args) ≤ℤ greatest_at (p ∷ points))
        × (greatest_at (p ∷ points) ≤ℤ top high_of (x ∷ args))
    by rest (Number v) k h =
        let here = held_between x v h k in
        (max_grows _ _ _ _ here.from rest.0, max_grows _ _ _ _ here.to rest.1)
    by rest (Element j) k h = absurd k
    by rest (Symbol n) k h = absurd k
tops_hold any ins args points f ps e = search rules

pub greatest_sound : (any : Shape → Kinded) (ins : List Shape) (args : List Info)
    (points : List Point) (point : Point) → AreSpans ins → ArePointsOf any ins points
    → IsPointOf kinds.Span 0 point → EachHolds args points → RelatesGreatest points point
    → Holds (greatest_of args) point
greatest_sound any ins args points (Number z) f ps k e r =
    let t = tops_hold any ins args points f ps e in
    known_holds _ _ z (rw r t.0) (rw r t.1) k
greatest_sound any ins args points point f ps k e r = search rules

greatest_back_ends : ℤ → ℤ → ℤ → ℤ → Info
greatest_back_ends l h a b = if int_lt h a then Contradiction
    else known (if int_lt b l then l else neg_ℤ B) h

greatest_back_closer : (l h a b l' h' a' b' : ℤ) → l ≤ℤ l' → h' ≤ℤ h → a ≤ℤ a' → b' ≤ℤ b
    → AreOrdered l' h' → Below (greatest_back_ends l h a b) (greatest_back_ends l' h' a' b')
unfolding greatest_back_ends
greatest_back_closer l h a b l' h' a' b' p q r s o =
    by (int_lt h a) refl (int_lt b l) refl (int_lt h' a') refl (int_lt b' l') refl
  where
    by : (m : Bool) → int_lt h a ≡ m → (t : Bool) → int_lt b l ≡ t → (m' : Bool)
        → int_lt h' a' ≡ m' → (t' : Bool) → int_lt b' l' ≡ t'
        → Below (if m then Contradiction else known (if t then l else neg_ℤ B) h)
        (if m' then Contradiction else known (if t' then l' else neg_ℤ B) h')
    by m f t g true f' t' g' = to_top _
    by true f t g false f' t' g' = absurd (omega (arith, ints, q, r))
    by false f true g false f' true g' = known_below _ _ _ _ p q
    by false f true g false f' false g' = absurd (omega (arith, ints, p, s))
    by false f false g false f' true g' = known_below _ _ _ _ o.above q
    by false f false g false f' false g' = known_below _ _ _ _ (omega (arith, ints)) q

pub greatest_back_below : (z z' : Info) (olds news : List Info) → Below z z' → z' ≢ Contradiction
    → EachBelow olds news → AreClear news
    → Below (greatest_back_of z olds) (greatest_back_of z' news)
unfolding greatest_back_ends
greatest_back_below z z' olds news p n q m =
    let a = ends_within z z' p n in
    let t = tops_within olds news q m in
    greatest_back_closer _ _ _ _ _ _ _ _ a.low a.high t.0 t.1 (ends_ordered z')

pub greatest_back_kind : (z : Info) (others : List Info)
    → IsOf kinds.Span 0 (greatest_back_of z others)
greatest_back_kind z others = by (int_lt (high_of z) (top low_of others))
  where
    by : (m : Bool) → IsOf kinds.Span 0 (if m then Contradiction else known
        (if int_lt (top high_of others) (low_of z) then low_of z else neg_ℤ B) (high_of z))
    by true = tt
    by false = known_kind 0 _ _

greatest_back_open : (l h a b v w u : ℤ) → l ≤ℤ w → w ≤ℤ h → a ≤ℤ v → v ≤ℤ b → IsInRange u
    → w ≡ int_max u v → Holds (greatest_back_ends l h a b) (Number u)
unfolding greatest_back_ends
greatest_back_open l h a b v w u p q r s k e =
    by (int_lt h a) refl (int_lt b l) refl
  where
    by : (m : Bool) → int_lt h a ≡ m → (t : Bool) → int_lt b l ≡ t
        → Holds (if m then Contradiction else known (if t then l else neg_ℤ B) h) (Number u)
    by true f t g = absurd (omega (arith, ints, clamps))
    by false f true g = known_holds _ _ u (omega (arith, ints, clamps))
        (omega (arith, ints, clamps)) k
    by false f false g = known_holds _ _ u k.0 (omega (arith, ints, clamps)) k

pub greatest_back_sound : (any : Shape → Kinded) (ins : List Shape) (z : Info) (others : List Info)
    (points : List Point) (w u : ℤ) → AreSpans ins → ArePointsOf any ins points → IsInRange w
    → IsInRange u → Holds z (Number w) → EachHolds others points
    → w ≡ int_max u (greatest_at points) → Holds (greatest_back_of z others) (Number u)
unfolding greatest_back_ends
greatest_back_sound any ins z others points w u f ps i k h e r =
    let a = held_between z w h i in
    let t = tops_hold any ins others points f ps e in
    greatest_back_open _ _ _ _ (greatest_at points) w u a.from a.to t.0 t.1 k r

-- ---- the least

min_grows : (a b c d : ℤ) → a ≤ℤ c → b ≤ℤ d → int_min a b ≤ℤ int_min c d
min_grows a b c d p q = omega (arith, ints, clamps)

-- where more is known of the numbers, the ends of the least are closer
bottoms_within : (olds news : List Info) → EachBelow olds news → AreClear news
    → (bottom low_of olds ≤ℤ bottom low_of news) × (bottom high_of news ≤ℤ bottom high_of olds)
bottoms_within [] [] p n = (omega (arith, ints), omega (arith, ints))
bottoms_within (x ∷ olds) (x' ∷ news) p n =
    let rest = bottoms_within olds news p.1 n.1 in
    let here = ends_within x x' p.0 n.0 in
    (min_grows _ _ _ _ here.low rest.0, min_grows _ _ _ _ here.high rest.1)
bottoms_within olds news p n = search rules

pub least_below : (olds news : List Info) → EachBelow olds news → AreClear news
    → Below (least_of olds) (least_of news)
least_below olds news p n =
    let t = bottoms_within olds news p n in
    known_below _ _ _ _ t.0 t.1

pub least_kind : (args : List Info) → IsOf kinds.Span 0 (least_of args)
least_kind args = known_kind 0 _ _

-- the least of points that are left lies between the two ends
pub bottoms_hold : (any : Shape → Kinded) (ins : List Shape) (args : List Info)
    (points : List Point) → AreSpans ins → ArePointsOf any ins points → EachHolds args points
    → (bottom low_of args ≤ℤ least_at points) × (least_at points ≤ℤ bottom high_of args)
bottoms_hold any ins [] [] f ps e = (omega (arith, ints), omega (arith, ints))
bottoms_hold any (s ∷ ins) (x ∷ args) (p ∷ points) f ps e =
    by (bottoms_hold any ins args points (others_are_spans s ins f) ps.1 e.1) p
    (rw (first_is_span s ins f) at ps.0) e.0
  where
    by : (bottom low_of args ≤ℤ least_at points) × (least_at points ≤ℤ bottom high_of args)
        → (p : Point) → IsPointOf kinds.Span 0 p → Holds x p
        → (bottom low_of (x ∷ args) ≤ℤ least_at (p ∷ points))
        × (least_at (p ∷ points) ≤ℤ bottom high_of (x ∷ args))
    by rest (Number v) k h =
        let here = held_between x v h k in
        (min_grows _ _ _ _ here.from rest.0, min_grows _ _ _ _ here.to rest.1)
    by rest (Element j) k h = absurd k
    by rest (Symbol n) k h = absurd k
bottoms_hold any ins args points f ps e = search rules

pub least_sound : (any : Shape → Kinded) (ins : List Shape) (args : List Info)
    (points : List Point) (point : Point) → AreSpans ins → ArePointsOf any ins points
    → IsPointOf kinds.Span 0 point → EachHolds args points → RelatesLeast points point
    → Holds (least_of args) point
least_sound any ins args points (Number z) f ps k e r =
    let t = bottoms_hold any ins args points f ps e in
    known_holds _ _ z (rw r t.0) (rw r t.1) k
least_sound any ins args points point f ps k e r = search rules

least_back_ends : ℤ → ℤ → ℤ → ℤ → Info
least_back_ends l h a b = if int_lt b l then Contradiction
    else known l (if int_lt h a then h else B)

least_back_closer : (l h a b l' h' a' b' : ℤ) → l ≤ℤ l' → h' ≤ℤ h → a ≤ℤ a' → b' ≤ℤ b
    → AreOrdered l' h' → Below (least_back_ends l h a b) (least_back_ends l' h' a' b')
unfolding least_back_ends
least_back_closer l h a b l' h' a' b' p q r s o =
    by (int_lt b l) refl (int_lt h a) refl (int_lt b' l') refl (int_lt h' a') refl
  where
    by : (m : Bool) → int_lt b l ≡ m → (t : Bool) → int_lt h a ≡ t → (m' : Bool)
        → int_lt b' l' ≡ m' → (t' : Bool) → int_lt h' a' ≡ t'
        → Below (if m then Contradiction else known l (if t then h else B))
        (if m' then Contradiction else known l' (if t' then h' else B))
    by m f t g true f' t' g' = to_top _
    by true f t g false f' t' g' = absurd (omega (arith, ints, p, s))
    by false f true g false f' true g' = known_below _ _ _ _ p q
    by false f true g false f' false g' = absurd (omega (arith, ints, q, r))
    by false f false g false f' true g' = known_below _ _ _ _ p o.below
    by false f false g false f' false g' = known_below _ _ _ _ p (omega (arith, ints))

pub least_back_below : (z z' : Info) (olds news : List Info) → Below z z' → z' ≢ Contradiction
    → EachBelow olds news → AreClear news
    → Below (least_back_of z olds) (least_back_of z' news)
unfolding least_back_ends
least_back_below z z' olds news p n q m =
    let a = ends_within z z' p n in
    let t = bottoms_within olds news q m in
    least_back_closer _ _ _ _ _ _ _ _ a.low a.high t.0 t.1 (ends_ordered z')

pub least_back_kind : (z : Info) (others : List Info)
    → IsOf kinds.Span 0 (least_back_of z others)
least_back_kind z others = by (int_lt (bottom high_of others) (low_of z))
  where
    by : (m : Bool) → IsOf kinds.Span 0 (if m then Contradiction else known (low_of z)
        (if int_lt (high_of z) (bottom low_of others) then high_of z else B))
    by true = tt
    by false = known_kind 0 _ _

least_back_open : (l h a b v w u : ℤ) → l ≤ℤ w → w ≤ℤ h → a ≤ℤ v → v ≤ℤ b → IsInRange u
    → w ≡ int_min u v → Holds (least_back_ends l h a b) (Number u)
unfolding least_back_ends
least_back_open l h a b v w u p q r s k e =
    by (int_lt b l) refl (int_lt h a) refl
  where
    by : (m : Bool) → int_lt b l ≡ m → (t : Bool) → int_lt h a ≡ t
        → Holds (if m then Contradiction else known l (if t then h else B)) (Number u)
    by true f t g = absurd (omega (arith, ints, clamps))
    by false f true g = known_holds _ _ u (omega (arith, ints, clamps))
        (omega (arith, ints, clamps)) k
    by false f false g = known_holds _ _ u (omega (arith, ints, clamps)) k.1 k

pub least_back_sound : (any : Shape → Kinded) (ins : List Shape) (z : Info) (others : List Info)
    (points : List Point) (w u : ℤ) → AreSpans ins → ArePointsOf any ins points → IsInRange w
    → IsInRange u → Holds z (Number w) → EachHolds others points
    → w ≡ int_min u (least_at points) → Holds (least_back_of z others) (Number u)
unfolding least_back_ends
least_back_sound any ins z others points w u f ps i k h e r =
    let a = held_between z w h i in
    let t = bottoms_hold any ins others points f ps e in
    least_back_open _ _ _ _ (least_at points) w u a.from a.to t.0 t.1 k r
