-- What the rules tell of single points.
use Rattle.std.specs.Prelude.{◌≡◌, ◌⊎◌, ℕ, ℤ, pos, neg_ℤ, ◌+ℤ◌, ◌-ℤ◌, ◌*ℤ◌, ◌≤ℤ◌, ◌<ℤ◌, int_lt, int_le}
use Rattle.std.specs.Prelude.{◌≤◌, Bool, true, false, not, ◌&&◌, List, [], ◌∷◌, length, if◌then◌else◌}
use Rattle.std.specs.Int.{int_max, int_min}
use Rattle.std.specs.Ordering.{int_eq}
use Rattle.std.proofs.Common.{arith, refl, rules, sym, subst, ap, ◌∙◌, inl, inr, suc}
use Rattle.std.proofs.lemmas.Bool.{le-leb}
use Rattle.std.proofs.lemmas.Bool.Decides.{Decides-int_eq}
use Rattle.std.proofs.lemmas.Int.{ints, clamps}
use borrow.Author.Differences.{same_in}
use lib.IntN.{*ℤ_comm}
use Rattle.prop_intervals.specs.Clip.{clip}
use Rattle.prop_intervals.specs.Quotients.{int_div_ceil}
use Rattle.prop_intervals.specs.inner.Parts.{int_div_floor}
use Rattle.prop_intervals.specs.laws.QuotientLaws.{floor-parts, ceil-parts, product-le, neg-product}
use Rattle.prop_lattice.specs.Order.{merge_of, is_contradiction}
use Rattle.prop_lattice.specs.Points.{Point, Number, Element, Symbol, Holds, IsPointOf}
use Rattle.prop_lattice.specs.Rank.{IsOf}
use Rattle.prop_lattice.specs.declared.info.Info.{Info}
use Rattle.prop_lattice.specs.declared.info.Info.TheVariants.{Nothing, Span, Set, Sym, Contradiction}
use Rattle.prop_lattice.specs.declared.info.Kind.TheVariants as kinds
use Rattle.prop_procedures.specs.declared.shape.Kinded.{Kinded}
use Rattle.prop_procedures.specs.declared.shape.Param.{Param}
use Rattle.prop_procedures.specs.declared.shape.Shape.{Shape}
use Rattle.prop_procedures.specs.declared.shape.Shape.TheVariants as shapes
use Rattle.prop_procedures.specs.inner.Places.{AreOf}
use Rattle.prop_points.proofs.Arguments.{number_out}
use Rattle.prop_points.proofs.Numbers.{clip_held}
use Rattle.prop_points.proofs.Singles.{single_only}
use Rattle.prop_points.proofs.Truths.{merged_same}
use Rattle.prop_points.specs.Singles.{IsSingle, AreSingle}
use Rattle.prop_rows.specs.Entries.{may_be, meets, picked, found, element_of, index_of, entry_of, IsEntry}
use Rattle.prop_rows.specs.Exact.{RowsAreExact}
use Rattle.prop_rows.specs.Row.{AreSpans, AreAny, Begins, at_most, value_of, Related}
use Rattle.prop_rows.specs.Sums.{corner, total, sum_of, sum_at, shares_of, parts_of, addend_of}
use Rattle.prop_rows.specs.declared.row.Row.TheVariants.{Sum, Addend, Element, Index, Entry}
use Rattle.prop_rows.specs.declared.row.Row.TheVariants.{Count, CountBack, Greatest, GreatestBack, Least, LeastBack}
use Rattle.prop_rows.specs.Extremes.{bottom, greatest_at, greatest_back_of, greatest_of, least_at, least_back_of}
use Rattle.prop_rows.specs.Extremes.{least_of, top}
use Rattle.prop_points.proofs.WideLaws.{wide_is_exact}
use Rattle.prop_wide.specs.declared.wide.Wide.TheVariants as wides
use Rattle.prop_rows.specs.laws.SumLaws.{first_is_span, others_are_spans}
use Rattle.prop_wide.specs.Ends.{low_of, high_of, known}
use Rattle.prop_lattice.specs.declared.span.TheConstants.{B}
use Rattle.prop_intervals.specs.laws.Relations.{IsInRange}
use Rattle.prop_wide.specs.Hulls.{hull_of}
use Rattle.prop_wide.specs.laws.EndLaws.{both_le, both_from, both_to}
use Rattle.prop_wide.specs.laws.TruthLaws.{never}

-- ---- numbers

-- a number alone is both ends
only_number : (a : Info) (v : ℤ) → IsSingle a (Number v) → (low_of a ≡ v) × (high_of a ≡ v)
only_number (Span s) v e = e
only_number a v e = search rules

least_same : (w : ℤ) → int_min (int_min w w) (int_min w w) ≡ w
least_same w = omega (arith, ints, clamps)

greatest_same : (w : ℤ) → int_max (int_max w w) (int_max w w) ≡ w
greatest_same w = omega (arith, ints, clamps)

corner_of_two : (c x : Info) (u v : ℤ) → IsSingle c (Number u) → IsSingle x (Number v)
    → (corner int_min c x ≡ u *ℤ v) × (corner int_max c x ≡ u *ℤ v)
corner_of_two c x u v e f =
    let a = only_number c u e in
    let b = only_number x v f in
    rw (a.0, a.1, b.0, b.1) (least_same (u *ℤ v), greatest_same (u *ℤ v))

-- pairs of numbers sum to one number
totals : (any : Shape → Kinded) (ins : List Shape) (args : List Info) (points : List Point) → AreSpans ins
    → AreOf any ins args → AreSingle args points
    → (total int_min args ≡ sum_at points) × (total int_max args ≡ sum_at points)
totals any ins [] [] f o e = (refl, refl)
totals any (s ∷ []) (c ∷ []) (p ∷ []) f o e = one p
  where
    one : (p : Point) → (pos 0 ≡ sum_at (p ∷ [])) × (pos 0 ≡ sum_at (p ∷ []))
    one (Number v) = (refl, refl)
    one (Element i) = (refl, refl)
    one (Symbol n) = (refl, refl)
totals any (s ∷ t ∷ ins) (c ∷ x ∷ args) (p ∷ q ∷ points) f o e =
    by (totals any ins args points (others_are_spans t ins (others_are_spans s (t ∷ ins) f)) o.1.1 e.1.1) c x p q
    (rw (first_is_span s (t ∷ ins) f) at o.0) (rw (first_is_span t ins (others_are_spans s (t ∷ ins) f)) at o.1.0) e.0
    e.1.0
  where
    by : (total int_min args ≡ sum_at points) × (total int_max args ≡ sum_at points) → (c x : Info) (p q : Point)
        → IsOf kinds.Span 0 c → IsOf kinds.Span 0 x → IsSingle c p → IsSingle x q
        → (total int_min (c ∷ x ∷ args) ≡ sum_at (p ∷ q ∷ points))
        × (total int_max (c ∷ x ∷ args) ≡ sum_at (p ∷ q ∷ points))
    by rest (Span a) (Span b) (Number u) (Number v) k l g h =
        let here = corner_of_two (Span a) (Span b) u v g h in
        (λ i. rest.0 i +ℤ here.0 i, λ i. rest.1 i +ℤ here.1 i)
    by rest c x p q k l g h = search rules
totals any ins args points f o e = search rules

between : (m v : ℤ) → m ≤ℤ v → v ≤ℤ m → v ≡ m
between m v h k = same_in _ _ (omega (arith, ints))

not_more : (most : ℕ) (f : List Info → Info) (args : List Info) → length args ≤ most
    → at_most most f args ≡ f args
not_more most f args l = rw (le-leb (length args) most l) refl

-- a single argument for each input
as_long : (any : Shape → Kinded) (ins : List Shape) (args : List Info) → AreOf any ins args
    → length args ≡ length ins
as_long any [] [] o = refl
as_long any (s ∷ ins) (a ∷ args) o = ap suc (as_long any ins args o.1)
as_long any ins args o = search rules

known_held : (lo hi v : ℤ) → IsInRange v → Holds (known lo hi) (Number v) → (lo ≤ℤ v) × (v ≤ℤ hi)
unfolding known
known_held lo hi v r h = by (both_le lo (neg_ℤ B) B hi) refl h
  where
    by : (s : Bool) → both_le lo (neg_ℤ B) B hi ≡ s → Holds (if s then Nothing else clip lo hi) (Number v)
        → (lo ≤ℤ v) × (v ≤ℤ hi)
    by true e k =
        let t = both_to lo (neg_ℤ B) B hi e in
        (omega (arith, ints, t.0, r.0), omega (arith, ints, t.1, r.1))
    by false e k = clip_held lo hi v k

-- ---- parts

-- what is left of a factor is that alone whose product is right
parts_exact : (m c x : ℤ) → IsInRange x → Holds (parts_of m m c) (Number x) → (c *ℤ x) ≡ m
parts_exact m c x r = by (int_lt (pos 0) c) refl (int_lt c (pos 0)) refl
  where
    turned : (x c : ℤ) → (x *ℤ neg_ℤ c) ≡ neg_ℤ (c *ℤ x)
    turned x c = *ℤ_comm x (neg_ℤ c) ∙ neg-product c x

    -- a number between the rounded quotients of one number
    exact : (m c x : ℤ) → IsInRange x → pos 0 <ℤ c → Holds (shares_of m m c) (Number x) → (x *ℤ c) ≡ m
    exact m c x r l h =
        let held = known_held (int_div_ceil m c) (int_div_floor m c) x r h in
        let up = ceil-parts m c l in
        let down = floor-parts m c l in
        let low = product-le (int_div_ceil m c) x c held.0 (at_least c l) in
        let high = product-le x (int_div_floor m c) c held.1 (at_least c l) in
        squeezed m (int_div_ceil m c *ℤ c) (int_div_floor m c *ℤ c) (x *ℤ c) up.0 low high down.0
      where
        at_least : (c : ℤ) → pos 0 <ℤ c → pos 0 ≤ℤ c
        at_least c l = omega (arith, ints)

        squeezed : (m s t w : ℤ) → m ≤ℤ s → s ≤ℤ w → w ≤ℤ t → t ≤ℤ m → w ≡ m
        squeezed m s t w h i j k = same_in _ _ (omega (arith, ints))

    none : (c : ℤ) → int_lt (pos 0) c ≡ false → int_lt c (pos 0) ≡ false → c ≡ pos 0
    none c e f = same_in _ _ (omega (arith, ints))

    by_zero : (x : ℤ) → (pos 0 *ℤ x) ≡ pos 0
    by_zero x = omega (arith, ints)

    back : (m w v : ℤ) → w ≡ neg_ℤ m → w ≡ neg_ℤ v → v ≡ m
    back m w v e f = omega (arith, ints, e, f)

    at_none : (m : ℤ) → (s : Bool) → both_le m (pos 0) (pos 0) m ≡ s
        → Holds (if s then Nothing else Contradiction) (Number x) → pos 0 ≡ m
    at_none m true e h = let t = both_to m (pos 0) (pos 0) m e in same_in _ _ (omega (arith, ints, t.0, t.1))
    at_none m false e h = absurd h

    by : (s : Bool) → int_lt (pos 0) c ≡ s → (t : Bool) → int_lt c (pos 0) ≡ t
        → Holds (if s then shares_of m m c else (if t then shares_of (neg_ℤ m) (neg_ℤ m) (neg_ℤ c)
        else (if int_le m (pos 0) && int_le (pos 0) m then Nothing else Contradiction))) (Number x) → (c *ℤ x) ≡ m
    by true e t f h = *ℤ_comm c x ∙ exact m c x r (omega (arith, ints)) h
    by false e true f h =
        back m (x *ℤ neg_ℤ c) (c *ℤ x) (exact (neg_ℤ m) (neg_ℤ c) x r (omega (arith, ints)) h) (turned x c)
    by false e false f h =
        ap (λ t. t *ℤ x) (none c e f) ∙ by_zero x ∙ at_none m (both_le m (pos 0) (pos 0) m) refl h

addend_exact : (z c : Info) (pairs : List Info) (v w x s : ℤ) → IsInRange x → IsSingle z (Number v)
    → IsSingle c (Number w)
    → total int_min pairs ≡ s → total int_max pairs ≡ s → Holds (addend_of z c pairs) (Number x)
    → v ≡ s +ℤ (w *ℤ x)
addend_exact z c pairs v w x s r e f g h k =
    let a = only_number z v e in
    let b = only_number c w f in
    let known : int_eq (low_of c) (high_of c) ≡ true = (Decides-int_eq _ _).1 (b.0 ∙ sym b.1) in
    rest v s (w *ℤ x) (parts_exact (v -ℤ s) w x r (rw (known, a.0, a.1, b.0, g, h) at k))
  where
    rest : (v s p : ℤ) → p ≡ v -ℤ s → v ≡ s +ℤ p
    rest v s p e = omega (arith, ints, e)

-- ---- entries

hull_alone : (a : Info) → hull_of a Contradiction ≡ a
hull_alone Nothing = refl
hull_alone (Span a) = refl
hull_alone (Set a) = refl
hull_alone (Sym a) = refl
hull_alone Contradiction = refl

-- a number alone may be itself, and no other
may_be_itself : (n : Info) (v first : ℤ) → IsSingle n (Number v)
    → ((v ≡ first) × (may_be n first ≡ true)) ⊎ ((v ≡ first → ⊥) × (may_be n first ≡ false))
may_be_itself n v first e =
    let o = only_number n v e in rw (o.0, o.1) (by (both_le v first first v) refl)
  where
    by : (s : Bool) → both_le v first first v ≡ s → ((v ≡ first) × (both_le v first first v ≡ true))
        ⊎ ((v ≡ first → ⊥) × (both_le v first first v ≡ false))
    by true f = let t = both_to v first first v f in inl (same_in _ _ (omega (arith, ints, t.0, t.1)), f)
    by false f = inr (
      (λ g. never (sym f ∙ both_from v first first v (omega (arith, ints, g)) (omega
          (arith, ints, g)))),
      f,
    )

after_it : (v first : ℤ) → v <ℤ first → v <ℤ (first +ℤ pos 1)
after_it v first l = omega (arith, ints)

-- a number before the first is none of them
not_first : (n : Info) (v first : ℤ) → IsSingle n (Number v) → v <ℤ first → may_be n first ≡ false
not_first n v first e l = by (may_be_itself n v first e)
  where
    by : ((v ≡ first) × (may_be n first ≡ true)) ⊎ ((v ≡ first → ⊥) × (may_be n first ≡ false))
        → may_be n first ≡ false
    by (inl k) = absurd (apart v first k.0 l)
      where
        apart : (v f : ℤ) → v ≡ f → v <ℤ f → ⊥
        apart v f e l = omega (arith, ints, e)
    by (inr k) = k.1

-- none is picked behind
picked_none : (n : Info) (v first : ℤ) (row : List Info) → IsSingle n (Number v) → v <ℤ first
    → picked n first row ≡ Contradiction
picked_none n v first [] e l = refl
picked_none n v first (a ∷ row) e l =
    rw (not_first n v first e l, picked_none n v (first +ℤ pos 1) row e (after_it v first l)) refl

picked_exact : (n : Info) (v first : ℤ) (row : List Info) (points : List Point) (point : Point)
    → IsSingle n (Number v) → AreSingle row points → Holds (picked n first row) point → IsEntry v first points point
picked_exact n v first [] points point e f h = absurd h
picked_exact n v first (a ∷ row) (p ∷ points) point e f h =
    by (may_be_itself n v first e) (picked_exact n v (first +ℤ pos 1) row points point e f.1)
    (λ k. picked_none n v (first +ℤ pos 1) row e k)
  where
    next : (v first : ℤ) → v ≡ first → v <ℤ (first +ℤ pos 1)
    next v first e = omega (arith, ints, e)

    by : ((v ≡ first) × (may_be n first ≡ true)) ⊎ ((v ≡ first → ⊥) × (may_be n first ≡ false))
        → (Holds (picked n (first +ℤ pos 1) row) point → IsEntry v (first +ℤ pos 1) points point)
        → (v <ℤ (first +ℤ pos 1) → picked n (first +ℤ pos 1) row ≡ Contradiction)
        → IsEntry v first (p ∷ points) point
    by (inl k) rest none = inl (
      k.0,
      single_only a p point f.0
          (rw (k.1, none (next v first k.0), hull_alone a) at h),
    )
    by (inr k) rest none = inr (rest (rw k.1 at h))
picked_exact n v first (a ∷ row) [] point e f h = absurd f

-- ---- numbers of entries

-- values that meet are one
met : (a b : Info) (p q : Point) → IsSingle a p → IsSingle b q → meets a b ≡ true → p ≡ q
met a b p q e f h = merged_same a b p q e f (opposite (is_contradiction (merge_of a b)) h)
  where
    opposite : (s : Bool) → not s ≡ true → s ≡ false
    opposite true g = absurd (never g)
    opposite false g = refl

exactly : (v w : ℤ) → Holds (clip v v) (Number w) → w ≡ v
exactly v w h = let t = clip_held v v w h in between v w t.0 t.1

found_none : (o n : Info) (v first : ℤ) (row : List Info) → IsSingle n (Number v) → v <ℤ first
    → found o n first row ≡ Contradiction
found_none o n v first [] e l = refl
found_none o n v first (a ∷ row) e l =
    rw (not_first n v first e l, found_none o n v (first +ℤ pos 1) row e (after_it v first l)) refl

-- the number that is found, and its entry
found_exact : (o n : Info) (q : Point) (v first w : ℤ) (row : List Info) (points : List Point) → IsSingle o q
    → IsSingle n (Number v) → AreSingle row points → Holds (found o n first row) (Number w)
    → (w ≡ v) × IsEntry v first points q
found_exact o n q v first w [] points g e f h = absurd h
found_exact o n q v first w (a ∷ row) (p ∷ points) g e f h =
    by (may_be_itself n v first e) (meets a o) refl
    (found_exact o n q v (first +ℤ pos 1) w row points g e f.1)
    (λ k. found_none o n v (first +ℤ pos 1) row e k)
  where
    next : (v first : ℤ) → v ≡ first → v <ℤ (first +ℤ pos 1)
    next v first e = omega (arith, ints, e)

    by : ((v ≡ first) × (may_be n first ≡ true)) ⊎ ((v ≡ first → ⊥) × (may_be n first ≡ false)) → (s : Bool)
        → meets a o ≡ s
        → (Holds (found o n (first +ℤ pos 1) row) (Number w) → (w ≡ v) × IsEntry v (first +ℤ pos 1) points q)
        → (v <ℤ (first +ℤ pos 1) → found o n (first +ℤ pos 1) row ≡ Contradiction)
        → (w ≡ v) × IsEntry v first (p ∷ points) q
    by (inl k) true m rest none =
        let held : Holds (clip first first) (Number w) =
        rw (k.1, m, none (next v first k.0), hull_alone (clip first first)) at h in
        (exactly first w held ∙ sym k.0, inl (k.0, sym (met a o p q f.0 g m)))
    by (inl k) false m rest none = absurd (rw (k.1, m, none (next v first k.0)) at h)
    by (inr k) s m rest none = let r = rest (rw k.1 at h) in (r.0, inr r.1)
found_exact o n q v first w (a ∷ row) [] g e f h = absurd f

-- ---- the entry of this number

entry_exact : (n j v : Info) (a b : ℤ) (p point : Point) → IsSingle n (Number a) → IsSingle j (Number b)
    → IsSingle v p → Holds (entry_of n j v) point → a ≡ b → point ≡ p
entry_exact n j v a b p point e f g h same =
    let x = only_number n a e in
    let y = only_number j b f in
    let eq : (k m : ℤ) → k ≡ m → int_eq k m ≡ true = λ k m r. (Decides-int_eq k m).1 r in
    single_only v p point g (rw (x.0, x.1, y.0, y.1, eq a a refl, eq b b refl, eq a b same) at h)

-- ---- the greatest

tops_at : (any : Shape → Kinded) (ins : List Shape) (args : List Info) (points : List Point) → AreSpans ins
    → AreOf any ins args → AreSingle args points
    → (top low_of args ≡ greatest_at points) × (top high_of args ≡ greatest_at points)
tops_at any ins [] [] f o e = (refl, refl)
tops_at any (s ∷ ins) (a ∷ args) (p ∷ points) f o e =
    by (tops_at any ins args points (others_are_spans s ins f) o.1 e.1) a p (rw (first_is_span s ins f) at o.0) e.0
  where
    by : (top low_of args ≡ greatest_at points) × (top high_of args ≡ greatest_at points) → (a : Info) (p : Point)
        → IsOf kinds.Span 0 a → IsSingle a p → (top low_of (a ∷ args) ≡ greatest_at (p ∷ points))
        × (top high_of (a ∷ args) ≡ greatest_at (p ∷ points))
    by rest (Span b) (Number v) k h = (λ i. int_max (h.0 i) (rest.0 i), λ i. int_max (h.1 i) (rest.1 i))
    by rest a p k h = search rules
tops_at any ins args points f o e = search rules

greatest_exact : (any : Shape → Kinded) (ins : List Shape) (param : Param) (args : List Info) (points : List Point)
    (point : Point) → AreSpans ins → AreOf any ins args → AreSingle args points
    → IsPointOf kinds.Span 0 point → Holds (value_of Greatest param args) point → Related Greatest param points point
greatest_exact any ins param args points point f o e p h =
    number_out 0 point (λ w. Holds (value_of Greatest param args) w → Related Greatest param points w) p by h
  where
    by : (z : ℤ) → IsInRange z → Holds (greatest_of args) (Number z) → z ≡ greatest_at points
    by z i k =
        let t = tops_at any ins args points f o e in
        let held = known_held (top low_of args) (top high_of args) z i k in
        between (greatest_at points) z (rw (← t.0) held.0) (rw (← t.1) held.1)

-- what is left by numbers that are known
greatest_left : (w g x : ℤ) → IsInRange x → Holds (if int_lt w g then Contradiction
    else known (if int_lt g w then w else neg_ℤ B) w) (Number x) → w ≡ int_max x g
greatest_left w g x r = by (int_lt w g) refl (int_lt g w) refl
  where
    by : (s : Bool) → int_lt w g ≡ s → (t : Bool) → int_lt g w ≡ t
        → Holds (if s then Contradiction else known (if t then w else neg_ℤ B) w) (Number x) → w ≡ int_max x g
    by true e t f h = absurd h
    by false e true f h = let k = known_held w w x r h in same_in _ _ (omega (arith, ints, clamps, k.0, k.1))
    by false e false f h = let k = known_held (neg_ℤ B) w x r h in same_in _ _ (omega (arith, ints, clamps, k.1))

greatest_back_exact : (z : Info) (others : List Info) (w g x : ℤ) → IsInRange x → IsSingle z (Number w)
    → top low_of others ≡ g → top high_of others ≡ g → Holds (greatest_back_of z others) (Number x)
    → w ≡ int_max x g
greatest_back_exact z others w g x r e k m h =
    let a = only_number z w e in greatest_left w g x r (rw (a.0, a.1, k, m) at h)

greatest_back_at : (any : Shape → Kinded) (ins : List Shape) (param : Param) (args : List Info) (points : List Point)
    (point : Point) → Begins shapes.Span AreSpans ins → AreOf any ins args → AreSingle args points
    → IsPointOf kinds.Span 0 point → Holds (value_of GreatestBack param args) point
    → Related GreatestBack param points point
greatest_back_at any (s ∷ ins) param (z ∷ others) (p ∷ points) point f o e k h =
    by z p (rw f.0 at o.0) e.0 point k h
  where
    by : (z : Info) (p : Point) → IsOf kinds.Span 0 z → IsSingle z p → (point : Point)
        → IsPointOf kinds.Span 0 point → Holds (greatest_back_of z others) point
        → Related GreatestBack param (p ∷ points) point
    by (Span a) (Number w) i g (Number x) n m =
        let t = tops_at any ins others points f.1 o.1 e.1 in
        greatest_back_exact (Span a) others w (greatest_at points) x n g t.0 t.1 m
    by z p i g point n m = search rules
greatest_back_at any ins param args points point f o e k h = search rules

-- ---- the least

bottoms_at : (any : Shape → Kinded) (ins : List Shape) (args : List Info) (points : List Point) → AreSpans ins
    → AreOf any ins args → AreSingle args points
    → (bottom low_of args ≡ least_at points) × (bottom high_of args ≡ least_at points)
bottoms_at any ins [] [] f o e = (refl, refl)
bottoms_at any (s ∷ ins) (a ∷ args) (p ∷ points) f o e =
    by (bottoms_at any ins args points (others_are_spans s ins f) o.1 e.1) a p (rw (first_is_span s ins f) at o.0) e.0
  where
    by : (bottom low_of args ≡ least_at points) × (bottom high_of args ≡ least_at points) → (a : Info) (p : Point)
        → IsOf kinds.Span 0 a → IsSingle a p → (bottom low_of (a ∷ args) ≡ least_at (p ∷ points))
        × (bottom high_of (a ∷ args) ≡ least_at (p ∷ points))
    by rest (Span b) (Number v) k h = (λ i. int_min (h.0 i) (rest.0 i), λ i. int_min (h.1 i) (rest.1 i))
    by rest a p k h = search rules
bottoms_at any ins args points f o e = search rules

least_exact : (any : Shape → Kinded) (ins : List Shape) (param : Param) (args : List Info) (points : List Point)
    (point : Point) → AreSpans ins → AreOf any ins args → AreSingle args points
    → IsPointOf kinds.Span 0 point → Holds (value_of Least param args) point → Related Least param points point
least_exact any ins param args points point f o e p h =
    number_out 0 point (λ w. Holds (value_of Least param args) w → Related Least param points w) p by h
  where
    by : (z : ℤ) → IsInRange z → Holds (least_of args) (Number z) → z ≡ least_at points
    by z i k =
        let t = bottoms_at any ins args points f o e in
        let held = known_held (bottom low_of args) (bottom high_of args) z i k in
        between (least_at points) z (rw (← t.0) held.0) (rw (← t.1) held.1)

-- what is left by numbers that are known
least_left : (w g x : ℤ) → IsInRange x → Holds (if int_lt g w then Contradiction
    else known w (if int_lt w g then w else B)) (Number x) → w ≡ int_min x g
least_left w g x r = by (int_lt g w) refl (int_lt w g) refl
  where
    by : (s : Bool) → int_lt g w ≡ s → (t : Bool) → int_lt w g ≡ t
        → Holds (if s then Contradiction else known w (if t then w else B)) (Number x) → w ≡ int_min x g
    by true e t f h = absurd h
    by false e true f h = let k = known_held w w x r h in same_in _ _ (omega (arith, ints, clamps, k.0, k.1))
    by false e false f h = let k = known_held w B x r h in same_in _ _ (omega (arith, ints, clamps, k.0))

least_back_exact : (z : Info) (others : List Info) (w g x : ℤ) → IsInRange x → IsSingle z (Number w)
    → bottom low_of others ≡ g → bottom high_of others ≡ g → Holds (least_back_of z others) (Number x)
    → w ≡ int_min x g
least_back_exact z others w g x r e k m h =
    let a = only_number z w e in least_left w g x r (rw (a.0, a.1, k, m) at h)

least_back_at : (any : Shape → Kinded) (ins : List Shape) (param : Param) (args : List Info) (points : List Point)
    (point : Point) → Begins shapes.Span AreSpans ins → AreOf any ins args → AreSingle args points
    → IsPointOf kinds.Span 0 point → Holds (value_of LeastBack param args) point
    → Related LeastBack param points point
least_back_at any (s ∷ ins) param (z ∷ others) (p ∷ points) point f o e k h =
    by z p (rw f.0 at o.0) e.0 point k h
  where
    by : (z : Info) (p : Point) → IsOf kinds.Span 0 z → IsSingle z p → (point : Point)
        → IsPointOf kinds.Span 0 point → Holds (least_back_of z others) point
        → Related LeastBack param (p ∷ points) point
    by (Span a) (Number w) i g (Number x) n m =
        let t = bottoms_at any ins others points f.1 o.1 e.1 in
        least_back_exact (Span a) others w (least_at points) x n g t.0 t.1 m
    by z p i g point n m = search rules
least_back_at any ins param args points point f o e k h = search rules

-- ---- all rules

summed : (any : Shape → Kinded) (ins : List Shape) (param : Param) (args : List Info) (points : List Point)
    (point : Point) → AreSpans ins → length ins ≤ 128 → AreOf any ins args → AreSingle args points
    → IsPointOf kinds.Span 0 point → Holds (value_of Sum param args) point → Related Sum param points point
summed any ins param args points point f l o e p h =
    number_out 0 point (λ w. Holds (value_of Sum param args) w → Related Sum param points w) p
    (λ z i k. by z i (subst (λ a. Holds a (Number z)) (not_more 128 sum_of args
    (omega (arith, l, as_long any ins args o)))
    k)) h
  where
    by : (z : ℤ) → IsInRange z → Holds (sum_of args) (Number z) → z ≡ sum_at points
    by z i k =
        let t = totals any ins args points f o e in
        let held = known_held (total int_min args) (total int_max args) z i k in
        between (sum_at points) z (rw (← t.0) held.0) (rw (← t.1) held.1)

added : (any : Shape → Kinded) (ins : List Shape) (param : Param) (args : List Info) (points : List Point)
    (point : Point) → Begins shapes.Span (Begins shapes.Span AreSpans) ins → length ins ≤ 128 → AreOf any ins args
    → AreSingle args points → IsPointOf kinds.Span 0 point → Holds (value_of Addend param args) point
    → Related Addend param points point
added any (s ∷ t ∷ ins) param (z ∷ c ∷ pairs) (p ∷ q ∷ points) point f l o e k h =
    by z c p q (rw f.0 at o.0) (rw f.1.0 at o.1.0) e.0 e.1.0 point k
    (subst (λ a. Holds a point) (not_more 126 (addend_of z c) pairs
    (omega (arith, l, as_long any ins pairs o.1.1))) h)
  where
    by : (z c : Info) (p q : Point) → IsOf kinds.Span 0 z → IsOf kinds.Span 0 c → IsSingle z p → IsSingle c q
        → (point : Point) → IsPointOf kinds.Span 0 point → Holds (addend_of z c pairs) point
        → Related Addend param (p ∷ q ∷ points) point
    by (Span a) (Span b) (Number v) (Number w) i j g d (Number x) n m =
        let t = totals any ins pairs points f.1.1 o.1.1 e.1.1 in
        addend_exact (Span a) (Span b) pairs v w x (sum_at points) n g d t.0 t.1 m
    by z c p q i j g d point n m = search rules
added any ins param args points point f l o e k h = search rules

picked_at : (any : Shape → Kinded) (ins : List Shape) (param : Param) (args : List Info) (points : List Point)
    (point : Point) → Begins shapes.Span AreAny ins → length ins ≤ 128 → AreOf any ins args → AreSingle args points
    → Holds (value_of Element param args) point → Related Element param points point
picked_at any (s ∷ ins) param (n ∷ row) (p ∷ points) point f l o e h =
    by n p (rw f.0 at o.0) e.0 (subst (λ a. Holds a point) (not_more 127 (element_of n) row
    (omega (arith, l, as_long any ins row o.1))) h)
  where
    by : (n : Info) (p : Point) → IsOf kinds.Span 0 n → IsSingle n p → Holds (element_of n row) point
        → Related Element param (p ∷ points) point
    by (Span a) (Number v) i g k = picked_exact (Span a) v (pos 1) row points point g e.1 k
    by n p i g k = search rules
picked_at any ins param args points point f l o e h = search rules

found_at : (any : Shape → Kinded) (ins : List Shape) (param : Param) (args : List Info) (points : List Point)
    (point : Point) → Begins (shapes.Any 0) (Begins shapes.Span AreAny) ins → length ins ≤ 128 → AreOf any ins args
    → AreSingle args points → IsPointOf kinds.Span 0 point → Holds (value_of Index param args) point
    → Related Index param points point
found_at any (t ∷ s ∷ ins) param (o ∷ n ∷ row) (q ∷ p ∷ points) point f l r e k h =
    by n p (rw f.1.0 at r.1.0) e.1.0 point k (subst (λ a. Holds a point) (not_more 126 (index_of o n) row
    (omega (arith, l, as_long any ins row r.1.1))) h)
  where
    by : (n : Info) (p : Point) → IsOf kinds.Span 0 n → IsSingle n p → (point : Point)
        → IsPointOf kinds.Span 0 point → Holds (index_of o n row) point → Related Index param (q ∷ p ∷ points) point
    by (Span a) (Number v) i g (Number w) j d = found_exact o (Span a) q v (pos 1) w row points e.0 g e.1.1 d
    by n p i g point j d = search rules
found_at any ins param args points point f l r e k h = search rules

entered : (any : Shape → Kinded) (param : Param) (args : List Info) (points : List Point) (point : Point)
    → AreOf any (shapes.Span ∷ shapes.Span ∷ shapes.Any 0 ∷ []) args → AreSingle args points
    → Holds (value_of Entry param args) point → Related Entry param points point
entered any param (n ∷ j ∷ v ∷ []) (p ∷ q ∷ r ∷ []) point o e h = by n j p q o.0 o.1.0 e.0 e.1.0 h
  where
    by : (n j : Info) (p q : Point) → IsOf kinds.Span 0 n → IsOf kinds.Span 0 j → IsSingle n p → IsSingle j q
        → Holds (entry_of n j v) point → Related Entry param (p ∷ q ∷ r ∷ []) point
    by (Span a) (Span b) (Number x) (Number y) i k f g d =
        entry_exact (Span a) (Span b) v x y r point f g e.1.1.0 d
    by n j p q i k f g d = search rules
entered any param args points point o e h = search rules

pub rows_are_exact : RowsAreExact
rows_are_exact Sum ins out need f any param args points point c e p h =
    summed any ins param args points point f.0 f.3 c.of_kinds e (rw f.1 at p) h
rows_are_exact Addend ins out need f any param args points point c e p h =
    added any ins param args points point f.0 f.3 c.of_kinds e (rw f.1 at p) h
rows_are_exact Element ins out need f any param args points point c e p h =
    picked_at any ins param args points point f.0 f.3 c.of_kinds e h
rows_are_exact Index ins out need f any param args points point c e p h =
    found_at any ins param args points point f.0 f.3 c.of_kinds e (rw f.1 at p) h
rows_are_exact Entry ins out need f any param args points point c e p h =
    entered any param args points point (rw f.0 at c.of_kinds) e h
rows_are_exact Count ins out need f any param args points point c e p h =
    wide_is_exact wides.Count ins out need (f.0, f.1, f.2) any param args points point c e p h
rows_are_exact CountBack ins out need f any param args points point c e p h =
    wide_is_exact wides.CountBack ins out need (f.0, f.1, f.2) any param args points point c e p h
rows_are_exact Greatest ins out need f any param args points point c e p h =
    greatest_exact any ins param args points point f.0 c.of_kinds e (rw f.1 at p) h
rows_are_exact GreatestBack ins out need f any param args points point c e p h =
    greatest_back_at any ins param args points point f.0 c.of_kinds e (rw f.1 at p) h
rows_are_exact Least ins out need f any param args points point c e p h =
    least_exact any ins param args points point f.0 c.of_kinds e (rw f.1 at p) h
rows_are_exact LeastBack ins out need f any param args points point c e p h =
    least_back_at any ins param args points point f.0 c.of_kinds e (rw f.1 at p) h
