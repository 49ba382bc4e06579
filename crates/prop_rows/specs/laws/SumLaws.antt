-- The laws of sums of products.
use Rattle.std.specs.Prelude.{◌≡◌, ◌≢◌, ℤ, pos, neg_ℤ, ◌+ℤ◌, ◌-ℤ◌, ◌*ℤ◌, ◌≤ℤ◌, int_lt}
use Rattle.std.specs.Prelude.{Bool, true, false, int_le, ◌&&◌, List, [], ◌∷◌, if◌then◌else◌}
use Rattle.std.specs.Int.{int_max, int_min}
use Rattle.std.specs.List.{list_all}
use Rattle.std.specs.Ordering.{int_eq}
use Rattle.std.proofs.Common.{arith, refl, rules, ap, ◌∙◌}
use Rattle.std.proofs.lemmas.Bool.{and_parts}
use Rattle.std.proofs.lemmas.Int.{ints, clamps}
use Rattle.prop_intervals.specs.laws.ProductLaws.{product_within}
use Rattle.prop_intervals.specs.laws.QuotientLaws.{floor-below, ceil-below, ceil-le, le-floor}
use Rattle.prop_intervals.specs.laws.QuotientLaws.{neg-product}
use Rattle.prop_intervals.specs.laws.Relations.{IsInRange}
use Rattle.prop_lattice.specs.Order.{Below}
use Rattle.prop_lattice.specs.Points.{Point, Number, Element, Symbol, Holds, IsPointOf}
use Rattle.prop_lattice.specs.Rank.{IsOf}
use Rattle.prop_lattice.specs.declared.info.Info.{Info}
use Rattle.prop_lattice.specs.declared.info.Info.TheVariants.{Nothing, Contradiction}
use Rattle.prop_lattice.specs.declared.info.Kind.TheVariants as kinds
use Rattle.prop_lattice.specs.declared.span.Span as spans
use Rattle.prop_procedures.specs.declared.shape.Kinded.{Kinded}
use Rattle.prop_procedures.specs.declared.shape.Shape.{Shape}
use Rattle.prop_procedures.specs.declared.shape.Shape.TheVariants.{Span, Truth, Any, From, To}
use Rattle.prop_procedures.specs.Rules.{EachBelow, EachHolds, AreClear}
use Rattle.prop_procedures.specs.inner.Places.{ArePointsOf}
use Rattle.prop_rows.specs.Row.{AreSpans, is_span, RelatesSum}
use Rattle.prop_rows.specs.Sums.{corner, total, sum_of, shares_of, parts_of, addend_of, sum_at}
use Rattle.prop_wide.specs.Ends.{low_of, high_of}
use Rattle.prop_wide.specs.laws.EndLaws.{ends_ordered, ends_within, held_between, AreWithin}
use Rattle.prop_wide.specs.laws.EndLaws.{both_le, both_from, both_to, known_below, known_kind}
use Rattle.prop_wide.specs.laws.EndLaws.{known_holds}
use Rattle.prop_wide.specs.laws.TruthLaws.{never}
use borrow.Author.Differences.{same_in}
use lib.IntN.{*ℤ_comm}
use Rattle.std.proofs.lemmas.Bool.Decides.{Decides-int_eq}

-- ---- products of ends

-- the numbers that an information leaves, as a span
span_at : Info → spans.Span
span_at x = let o = ends_ordered x in
    record { lo = low_of x; hi = high_of x; above = o.above; ordered = o.ordered; below = o.below }

-- a product of numbers between the ends lies between the least and the greatest corner
corners_hold : (c x : Info) (u v : ℤ) → low_of c ≤ℤ u → u ≤ℤ high_of c → low_of x ≤ℤ v
    → v ≤ℤ high_of x → (corner int_min c x ≤ℤ (u *ℤ v)) × ((u *ℤ v) ≤ℤ corner int_max c x)
unfolding span_at
corners_hold c x u v p q r s = product_within (span_at c) (span_at x) u v (p, q) (r, s)

-- closer ends have closer corners
corners_within : (c x c' x' : Info) → AreWithin c c' → AreWithin x x'
    → (corner int_min c x ≤ℤ corner int_min c' x') × (corner int_max c' x' ≤ℤ corner int_max c x)
corners_within c x c' x' p q =
    let o = ends_ordered c' in
    let e = ends_ordered x' in
    let ch = up (low_of c') (high_of c') (high_of c) o.ordered p.high in
    let cl = up (low_of c) (low_of c') (high_of c') p.low o.ordered in
    let xh = up (low_of x') (high_of x') (high_of x) e.ordered q.high in
    let xl = up (low_of x) (low_of x') (high_of x') q.low e.ordered in
    let a = corners_hold c x (low_of c') (low_of x') p.low ch q.low xh in
    let b = corners_hold c x (low_of c') (high_of x') p.low ch xl q.high in
    let d = corners_hold c x (high_of c') (low_of x') cl p.high q.low xh in
    let f = corners_hold c x (high_of c') (high_of x') cl p.high xl q.high in
    (least _ _ _ _ _ a.0 b.0 d.0 f.0, greatest _ _ _ _ _ a.1 b.1 d.1 f.1)
  where
    up : (k m n : ℤ) → k ≤ℤ m → m ≤ℤ n → k ≤ℤ n
    up k m n h i = omega (arith, ints)

    least : (m s t u v : ℤ) → m ≤ℤ s → m ≤ℤ t → m ≤ℤ u → m ≤ℤ v
        → m ≤ℤ int_min (int_min s t) (int_min u v)
    least m s t u v h i j k = omega (arith, ints, clamps)

    greatest : (m s t u v : ℤ) → s ≤ℤ m → t ≤ℤ m → u ≤ℤ m → v ≤ℤ m
        → int_max (int_max s t) (int_max u v) ≤ℤ m
    greatest m s t u v h i j k = omega (arith, ints, clamps)

-- ---- sums

both_add : (a b c d : ℤ) → a ≤ℤ b → c ≤ℤ d → (a +ℤ c) ≤ℤ (b +ℤ d)
both_add a b c d h k = omega (arith, ints)

-- where more is known of the numbers, the sum is known more closely
pub totals_within : (olds news : List Info) → EachBelow olds news → AreClear news
    → (total int_min olds ≤ℤ total int_min news) × (total int_max news ≤ℤ total int_max olds)
totals_within [] [] p n = (omega (arith, ints), omega (arith, ints))
totals_within (c ∷ []) (c' ∷ []) p n = (omega (arith, ints), omega (arith, ints))
totals_within (c ∷ x ∷ olds) (c' ∷ x' ∷ news) p n =
    let rest = totals_within olds news p.1.1 n.1.1 in
    let here = corners_within c x c' x' (ends_within c c' p.0 n.0) (ends_within x x' p.1.0 n.1.0) in
    (both_add _ _ _ _ rest.0 here.0, both_add _ _ _ _ rest.1 here.1)
totals_within olds news p n = search rules

pub sum_below : (olds news : List Info) → EachBelow olds news → AreClear news
    → Below (sum_of olds) (sum_of news)
sum_below olds news p n =
    let t = totals_within olds news p n in
    known_below _ _ _ _ t.0 t.1

pub sum_kind : (args : List Info) → IsOf kinds.Span 0 (sum_of args)
sum_kind args = known_kind 0 _ _

pub first_is_span : (s : Shape) (shapes : List Shape) → AreSpans (s ∷ shapes) → s ≡ Span
first_is_span s shapes f = by s (and_parts (is_span s) (list_all is_span shapes) f).0
  where
    by : (s : Shape) → is_span s ≡ true → s ≡ Span
    by Span e = refl
    by Truth e = absurd (never e)
    by (Any n) e = absurd (never e)
    by From e = absurd (never e)
    by To e = absurd (never e)

pub others_are_spans : (s : Shape) (shapes : List Shape) → AreSpans (s ∷ shapes) → AreSpans shapes
others_are_spans s shapes f = (and_parts (is_span s) (list_all is_span shapes) f).1

-- points that are left sum up to a number between the least and the greatest sum
pub total_holds : (any : Shape → Kinded) (ins : List Shape) (args : List Info) (points : List Point)
    → AreSpans ins → ArePointsOf any ins points → EachHolds args points
    → (total int_min args ≤ℤ sum_at points) × (sum_at points ≤ℤ total int_max args)
total_holds any ins [] [] f ps e = (omega (arith, ints), omega (arith, ints))
total_holds any ins (c ∷ []) (p ∷ []) f ps e = one p
  where
    one : (p : Point) → (pos 0 ≤ℤ sum_at (p ∷ [])) × (sum_at (p ∷ []) ≤ℤ pos 0)
    one (Number v) = (omega (arith, ints), omega (arith, ints))
    one (Element i) = (omega (arith, ints), omega (arith, ints))
    one (Symbol s) = (omega (arith, ints), omega (arith, ints))
total_holds any (s ∷ t ∷ ins) (c ∷ x ∷ args) (p ∷ q ∷ points) f ps e =
    by (total_holds any ins args points (others_are_spans t ins (others_are_spans s (t ∷ ins) f))
    ps.1.1 e.1.1) p q (rw (first_is_span s (t ∷ ins) f) at ps.0)
    (rw (first_is_span t ins (others_are_spans s (t ∷ ins) f)) at ps.1.0) e.0 e.1.0
  where
    by : (total int_min args ≤ℤ sum_at points) × (sum_at points ≤ℤ total int_max args)
        → (p q : Point) → IsPointOf kinds.Span 0 p → IsPointOf kinds.Span 0 q → Holds c p
        → Holds x q → (total int_min (c ∷ x ∷ args) ≤ℤ sum_at (p ∷ q ∷ points))
        × (sum_at (p ∷ q ∷ points) ≤ℤ total int_max (c ∷ x ∷ args))
    by rest (Number u) (Number v) k l h i =
        let a = held_between c u h k in
        let b = held_between x v i l in
        let here = corners_hold c x u v a.from a.to b.from b.to in
        (both_add _ _ _ _ rest.0 here.0, both_add _ _ _ _ rest.1 here.1)
    by rest (Element j) q k l h i = absurd k
    by rest (Symbol n) q k l h i = absurd k
    by rest (Number u) (Element j) k l h i = absurd l
    by rest (Number u) (Symbol n) k l h i = absurd l
total_holds any ins args points f ps e = search rules

pub sum_sound : (any : Shape → Kinded) (ins : List Shape) (args : List Info) (points : List Point)
    (point : Point) → AreSpans ins → ArePointsOf any ins points → IsPointOf kinds.Span 0 point
    → EachHolds args points → RelatesSum points point → Holds (sum_of args) point
sum_sound any ins args points (Number z) f ps k e r =
    let t = total_holds any ins args points f ps e in
    known_holds _ _ z (rw r t.0) (rw r t.1) k
sum_sound any ins args points point f ps k e r = search rules

-- ---- back to one number

below_zero : (a b : ℤ) → a ≤ℤ b → neg_ℤ b ≤ℤ neg_ℤ a
below_zero a b h = omega (arith, ints)

-- the numbers whose product with zero lies from a to b: each, or none
at_zero : ℤ → ℤ → Info
at_zero a b = if int_le a (pos 0) && int_le (pos 0) b then Nothing else Contradiction

at_zero_below : (a b a' b' : ℤ) → a ≤ℤ a' → b' ≤ℤ b → Below (at_zero a b) (at_zero a' b')
unfolding at_zero
at_zero_below a b a' b' p q = by (both_le a (pos 0) (pos 0) b) (both_le a' (pos 0) (pos 0) b')
    (λ e. let t = both_to a' (pos 0) (pos 0) b' e in
    both_from a (pos 0) (pos 0) b (through a a' (pos 0) p t.0) (through (pos 0) b' b t.1 q))
  where
    through : (k m n : ℤ) → k ≤ℤ m → m ≤ℤ n → k ≤ℤ n
    through k m n h i = omega (arith, ints)

    by : (s t : Bool) → (t ≡ true → s ≡ true) → Below (if s then Nothing else Contradiction)
        (if t then Nothing else Contradiction)
    by true t h = tt
    by false true h = absurd (never (h refl))
    by false false h = tt

at_zero_kind : (a b : ℤ) → IsOf kinds.Span 0 (at_zero a b)
unfolding at_zero
at_zero_kind a b = by (both_le a (pos 0) (pos 0) b)
  where
    by : (s : Bool) → IsOf kinds.Span 0 (if s then Nothing else Contradiction)
    by true = tt
    by false = tt

at_zero_holds : (a b : ℤ) (p : Point) → a ≤ℤ pos 0 → pos 0 ≤ℤ b → Holds (at_zero a b) p
unfolding at_zero
at_zero_holds a b p h k = by (both_le a (pos 0) (pos 0) b) (both_from a (pos 0) (pos 0) b h k)
  where
    by : (s : Bool) → s ≡ true → Holds (if s then Nothing else Contradiction) p
    by true e = tt
    by false e = absurd (never e)

pub parts_below : (a b a' b' c : ℤ) → a ≤ℤ a' → b' ≤ℤ b
    → Below (parts_of a b c) (parts_of a' b' c)
unfolding at_zero
parts_below a b a' b' c p q =
    by (int_lt (pos 0) c) refl (int_lt c (pos 0)) refl (at_zero_below a b a' b' p q)
  where
    by : (s : Bool) → int_lt (pos 0) c ≡ s → (t : Bool) → int_lt c (pos 0) ≡ t
        → Below (at_zero a b) (at_zero a' b')
        → Below (if s then shares_of a b c else (if t then shares_of (neg_ℤ b) (neg_ℤ a) (neg_ℤ c)
        else at_zero a b)) (if s then shares_of a' b' c else (if t then shares_of (neg_ℤ b')
        (neg_ℤ a') (neg_ℤ c) else at_zero a' b'))
    by true e t f z = known_below _ _ _ _ (ceil-below a a' c (omega (arith, ints)) p)
        (floor-below b' b c (omega (arith, ints)) q)
    by false e true f z = known_below _ _ _ _
        (ceil-below (neg_ℤ b) (neg_ℤ b') (neg_ℤ c) (omega (arith, ints)) (below_zero b' b q))
        (floor-below (neg_ℤ a') (neg_ℤ a) (neg_ℤ c) (omega (arith, ints)) (below_zero a a' p))
    by false e false f z = z

pub parts_kind : (a b c : ℤ) → IsOf kinds.Span 0 (parts_of a b c)
unfolding at_zero
parts_kind a b c = by (int_lt (pos 0) c) (int_lt c (pos 0)) (at_zero_kind a b)
  where
    by : (s t : Bool) → IsOf kinds.Span 0 (at_zero a b)
        → IsOf kinds.Span 0 (if s then shares_of a b c
        else (if t then shares_of (neg_ℤ b) (neg_ℤ a) (neg_ℤ c) else at_zero a b))
    by true t z = known_kind 0 _ _
    by false true z = known_kind 0 _ _
    by false false z = z

-- a number whose product with the factor lies between a and b is held
pub parts_hold : (a b c x : ℤ) → IsInRange x → a ≤ℤ (c *ℤ x) → (c *ℤ x) ≤ℤ b
    → Holds (parts_of a b c) (Number x)
unfolding at_zero
parts_hold a b c x r h k = by (int_lt (pos 0) c) refl (int_lt c (pos 0)) refl
  where
    turned : (x *ℤ neg_ℤ c) ≡ neg_ℤ (c *ℤ x)
    turned = *ℤ_comm x (neg_ℤ c) ∙ neg-product c x

    flipped : (a b m n : ℤ) → n ≡ neg_ℤ m → a ≤ℤ m → m ≤ℤ b → (neg_ℤ b ≤ℤ n) × (n ≤ℤ neg_ℤ a)
    flipped a b m n f h i = (omega (arith, ints), omega (arith, ints))

    none : (c : ℤ) → int_lt (pos 0) c ≡ false → int_lt c (pos 0) ≡ false → c ≡ pos 0
    none c e f = same_in _ _ (omega (arith, ints))

    by : (s : Bool) → int_lt (pos 0) c ≡ s → (t : Bool) → int_lt c (pos 0) ≡ t
        → Holds (if s then shares_of a b c else (if t then shares_of (neg_ℤ b) (neg_ℤ a) (neg_ℤ c)
        else at_zero a b)) (Number x)
    by true e t f = known_holds _ _ x (ceil-le a c x (omega (arith, ints)) (rw (*ℤ_comm x c) h))
        (le-floor b c x (omega (arith, ints)) (rw (*ℤ_comm x c) k)) r
    by false e true f =
        let g = flipped a b (c *ℤ x) (x *ℤ neg_ℤ c) turned h k in
        known_holds _ _ x (ceil-le (neg_ℤ b) (neg_ℤ c) x (omega (arith, ints)) g.0)
        (le-floor (neg_ℤ a) (neg_ℤ c) x (omega (arith, ints)) g.1) r
    by false e false f =
        let zero : (c *ℤ x) ≡ pos 0 = ap (λ t. t *ℤ x) (none c e f) ∙ by_zero x in
        at_zero_holds a b (Number x) (rw (← zero) h) (rw (← zero) k)
      where
        by_zero : (x : ℤ) → (pos 0 *ℤ x) ≡ pos 0
        by_zero x = omega (arith, ints)

-- a factor that is known stays so as more is known
stays_known : (c c' : Info) → AreWithin c c' → int_eq (low_of c) (high_of c) ≡ true
    → (low_of c' ≡ low_of c) × (int_eq (low_of c') (high_of c') ≡ true)
stays_known c c' w e =
    let o = ends_ordered c' in same (low_of c) (high_of c) (low_of c') (high_of c') e w.low
    o.ordered w.high
  where
    same : (l h l' h' : ℤ) → int_eq l h ≡ true → l ≤ℤ l' → l' ≤ℤ h' → h' ≤ℤ h
        → (l' ≡ l) × (int_eq l' h' ≡ true)
    same l h l' h' e p q r =
        let k : l ≡ h = (Decides-int_eq l h).0 e in (
          same_in _ _ (omega (arith, ints, k)),
          (Decides-int_eq l' h').1 (same_in _ _ (omega (arith, ints, k))),
        )

both_less : (z z' m m' : ℤ) → z ≤ℤ z' → m' ≤ℤ m → (z -ℤ m) ≤ℤ (z' -ℤ m')
both_less z z' m m' h k = omega (arith, ints)

pub addend_below : (z c z' c' : Info) (olds news : List Info) → Below z z' → z' ≢ Contradiction
    → Below c c' → c' ≢ Contradiction → EachBelow olds news → AreClear news
    → Below (addend_of z c olds) (addend_of z' c' news)
addend_below z c z' c' olds news p m q n r s = by (int_eq (low_of c) (high_of c)) refl
  where
    by : (t : Bool) → int_eq (low_of c) (high_of c) ≡ t
        → Below (if t then parts_of (low_of z -ℤ total int_max olds)
        (high_of z -ℤ total int_min olds) (low_of c) else Nothing) (addend_of z' c' news)
    by false e = tt
    by true e =
        let k = stays_known c c' (ends_within c c' q n) e in
        let w = ends_within z z' p m in
        let t = totals_within olds news r s in
        rw (k.1, k.0) (parts_below _ _ _ _ (low_of c) (both_less _ _ _ _ w.low t.1)
        (both_less _ _ _ _ w.high t.0))

pub addend_kind : (z c : Info) (pairs : List Info) → IsOf kinds.Span 0 (addend_of z c pairs)
addend_kind z c pairs = by (int_eq (low_of c) (high_of c))
  where
    by : (t : Bool) → IsOf kinds.Span 0 (if t then parts_of (low_of z -ℤ total int_max pairs)
        (high_of z -ℤ total int_min pairs) (low_of c) else Nothing)
    by true = parts_kind (low_of z -ℤ total int_max pairs) (high_of z -ℤ total int_min pairs)
        (low_of c)
    by false = tt

pub addend_sound : (any : Shape → Kinded) (ins : List Shape) (z c : Info) (pairs : List Info)
    (points : List Point) (v w x : ℤ) → AreSpans ins → ArePointsOf any ins points → IsInRange v
    → IsInRange w → IsInRange x → Holds z (Number v) → Holds c (Number w) → EachHolds pairs points
    → v ≡ sum_at points +ℤ (w *ℤ x) → Holds (addend_of z c pairs) (Number x)
addend_sound any ins z c pairs points v w x f ps i j k h l e r =
    by (int_eq (low_of c) (high_of c)) refl
  where
    under : (n v s p t : ℤ) → n ≤ℤ v → v ≡ s +ℤ p → s ≤ℤ t → (n -ℤ t) ≤ℤ p
    under n v s p t a b d = omega (arith, ints)

    over : (n v s p t : ℤ) → v ≤ℤ n → v ≡ s +ℤ p → t ≤ℤ s → p ≤ℤ (n -ℤ t)
    over n v s p t a b d = omega (arith, ints)

    only : (l h w : ℤ) → int_eq l h ≡ true → l ≤ℤ w → w ≤ℤ h → l ≡ w
    only l h w a b d = same_in _ _ (omega (arith, ints, (Decides-int_eq l h).0 a))

    by : (t : Bool) → int_eq (low_of c) (high_of c) ≡ t
        → Holds (if t then parts_of (low_of z -ℤ total int_max pairs)
        (high_of z -ℤ total int_min pairs) (low_of c) else Nothing) (Number x)
    by false g = tt
    by true g =
        let a = held_between z v h i in
        let b = held_between c w l j in
        let t = total_holds any ins pairs points f ps e in
        rw (only (low_of c) (high_of c) w g b.from b.to)
        (parts_hold _ _ w x k (under _ v _ _ _ a.from r t.1) (over _ v _ _ _ a.to r t.0))
