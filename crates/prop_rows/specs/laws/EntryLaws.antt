-- The laws of the entry of a number.
use Rattle.std.specs.Prelude.{◌≡◌, ◌≢◌, ℕ, ℤ, pos, ◌+ℤ◌, ◌≤ℤ◌, Bool, true, false, not}
use Rattle.std.specs.Prelude.{◌&&◌, ◌==◌, bit_and, List, [], ◌∷◌, if◌then◌else◌}
use Rattle.std.specs.Int.{int_max, int_min}
use Rattle.std.specs.List.{AllByRecursion}
use Rattle.std.specs.Ordering.{int_eq}
use Rattle.std.proofs.Common.{arith, refl, rules, sym, subst, inl, inr, ◌∙◌, eq-eqb}
use Rattle.std.proofs.lemmas.Bool.{and_parts}
use Rattle.std.proofs.lemmas.Int.{ints, clamps}
use borrow.Author.Differences.{same_in}
use Rattle.std.proofs.lemmas.Bool.Decides.{Decides-int_eq}
use Rattle.std.proofs.lemmas.Nat.{and_le_l}
use Rattle.std.proofs.lemmas.Nat.Bits.{bit_at_and}
use Rattle.prop_intervals.specs.Clip.{clip}
use Rattle.prop_intervals.specs.laws.ClipLaws.{clip_of_span, clip_holds, span_from_holds}
use Rattle.prop_intervals.specs.laws.Relations.{IsInRange}
use Rattle.prop_lattice.specs.Order.{Below, merge_of, is_contradiction}
use Rattle.prop_lattice.specs.laws.OrderLaws.{info_laws, to_top}
use Rattle.prop_lattice.specs.Points.{Point, Number, Element, Symbol, Holds}
use Rattle.prop_lattice.specs.Rank.{IsOf}
use Rattle.prop_lattice.specs.declared.info.Info.{Info}
use Rattle.prop_lattice.specs.declared.info.Info.TheVariants.{Nothing, Span, Set, Sym}
use Rattle.prop_lattice.specs.declared.info.Info.TheVariants.{Contradiction}
use Rattle.prop_lattice.specs.declared.info.Kind.{Kind}
use Rattle.prop_lattice.specs.declared.info.Kind.TheVariants as kinds
use Rattle.prop_procedures.specs.Rules.{EachBelow, EachHolds}
use Rattle.prop_rows.specs.Entries.{may_be, meets, picked, found, is_known_as, entry_of, IsEntry}
use Rattle.prop_sets.specs.laws.NarrowestLaws.{elements_hold}
use Rattle.prop_wide.specs.Ends.{low_of, high_of}
use Rattle.prop_wide.specs.laws.EndLaws.{ends_ordered, ends_within, held_between, AreWithin}
use Rattle.prop_wide.specs.laws.EndLaws.{both_from, both_to}
use Rattle.prop_wide.specs.laws.HullLaws.{hull_below, hull_kind, hull_holds_first}
use Rattle.prop_wide.specs.laws.HullLaws.{hull_holds_second}
use Rattle.prop_wide.specs.laws.TruthLaws.{never}

-- ---- which numbers may be

at_most : (k m n : ℤ) → k ≤ℤ m → m ≤ℤ n → k ≤ℤ n
at_most k m n h i = omega (arith, ints)

-- where more is known of the number, fewer numbers are left
pub may_be_less : (n n' : Info) (v : ℤ) → AreWithin n n' → may_be n' v ≡ true → may_be n v ≡ true
may_be_less n n' v w e =
    let t = both_to (low_of n') v v (high_of n') e in
    both_from (low_of n) v v (high_of n) (at_most _ _ _ w.low t.0) (at_most _ _ _ t.1 w.high)

pub held_may_be : (n : Info) (v : ℤ) → Holds n (Number v) → IsInRange v → may_be n v ≡ true
held_may_be n v h r =
    let b = held_between n v h r in
    both_from (low_of n) v v (high_of n) b.from b.to

-- ---- which values meet

merge_below : (a b a' b' : Info) → Below a a' → Below b b' → Below (merge_of a b) (merge_of a' b')
merge_below a b a' b' p q =
    let above = info_laws.least_above a' b' in
    (info_laws.least_above a b).least (merge_of a' b')
    (info_laws.transitive a a' (merge_of a' b') p above.above_first)
    (info_laws.transitive b b' (merge_of a' b') q above.above_second)

-- a contradiction stays one where more is known
contradiction_stays : (a b : Info) → Below a b → is_contradiction a ≡ true
    → is_contradiction b ≡ true
contradiction_stays Contradiction b p e =
    subst (λ c. is_contradiction c ≡ true)
    (info_laws.antisymmetric Contradiction b p (to_top b)) refl
contradiction_stays Nothing b p e = absurd (never e)
contradiction_stays (Span a) b p e = absurd (never e)
contradiction_stays (Set a) b p e = absurd (never e)
contradiction_stays (Sym a) b p e = absurd (never e)

other : (s t : Bool) → (s ≡ true → t ≡ true) → not t ≡ true → not s ≡ true
other true t h e = absurd (clash t (h refl) e)
  where
    clash : (t : Bool) → t ≡ true → not t ≡ true → ⊥
    clash true f g = never g
    clash false f g = never f
other false t h e = refl

pub meets_less : (a b a' b' : Info) → Below a a' → Below b b' → meets a' b' ≡ true
    → meets a b ≡ true
meets_less a b a' b' p q e = other (is_contradiction (merge_of a b))
    (is_contradiction (merge_of a' b')) (contradiction_stays _ _ (merge_below a b a' b' p q)) e

-- what two informations hold, they hold together
merge_holds : (a b : Info) (p : Point) → Holds a p → Holds b p → Holds (merge_of a b) p
merge_holds Nothing b p h k = k
merge_holds (Span a) Nothing p h k = h
merge_holds (Set a) Nothing p h k = h
merge_holds (Sym a) Nothing p h k = h
merge_holds Contradiction Nothing p h k = h
merge_holds (Span a) (Span b) (Number v) h k =
    span_from_holds (int_max a.lo b.lo) (int_min a.hi b.hi) v
    (omega (arith, ints, clamps, h.0, k.0)) (omega (arith, ints, clamps, h.1, k.1))
    (omega (arith, ints, clamps, a.above, b.above))
    (omega (arith, ints, clamps, a.below, b.below))
merge_holds (Set a) (Set b) (Element i) h k =
    elements_hold (bit_and a.bits b.bits) (omega (arith, and_le_l a.bits b.bits, a.fits)) i
    (omega (arith, bit_at_and a.bits b.bits i, h, k))
merge_holds (Sym a) (Sym b) (Symbol c) h k = by (a == b) refl
  where
    by : (s : Bool) → (a == b) ≡ s → Holds (if s then Sym a else Contradiction) (Symbol c)
    by true e = h
    by false e = absurd (never (sym e ∙ eq-eqb a b (h ∙ sym k)))
merge_holds a b p h k = search rules

no_clash : (a : Info) (p : Point) → Holds a p → not (is_contradiction a) ≡ true
no_clash Nothing p h = refl
no_clash (Span a) p h = refl
no_clash (Set a) p h = refl
no_clash (Sym a) p h = refl
no_clash Contradiction p h = absurd h

pub held_meet : (a b : Info) (p : Point) → Holds a p → Holds b p → meets a b ≡ true
held_meet a b p h k = no_clash (merge_of a b) p (merge_holds a b p h k)

-- ---- the entry

-- each entry is of the kind
abbrev pub AreOfKind : Kind → ℕ → List Info → Type 0
AreOfKind kind size row = AllByRecursion (IsOf kind size) row

-- an entry counts where it may be picked: it grows where more is known, and where fewer are picked
part_below : (s s' : Bool) (a a' : Info) → (s' ≡ true → s ≡ true) → Below a a'
    → Below (if s then a else Contradiction) (if s' then a' else Contradiction)
part_below true true a a' h p = p
part_below s false a a' h p = to_top (if s then a else Contradiction)
part_below false true a a' h p = absurd (never (h refl))

part_kind : (kind : Kind) (size : ℕ) (s : Bool) (a : Info) → IsOf kind size a
    → IsOf kind size (if s then a else Contradiction)
part_kind kind size true a h = h
part_kind kind size false a h = search rules

part_held : (s : Bool) (a : Info) (p : Point) → s ≡ true → Holds a p
    → Holds (if s then a else Contradiction) p
part_held true a p e h = h
part_held false a p e h = absurd (never e)

pub picked_below : (n n' : Info) (first : ℤ) (olds news : List Info) → AreWithin n n'
    → EachBelow olds news → Below (picked n first olds) (picked n' first news)
picked_below n n' first [] [] w p = tt
picked_below n n' first (a ∷ olds) (a' ∷ news) w p = hull_below _ _ _ _
    (part_below (may_be n first) (may_be n' first) a a' (may_be_less n n' first w) p.0)
    (picked_below n n' (first +ℤ pos 1) olds news w p.1)
picked_below n n' first olds news w p = search rules

pub picked_kind : (kind : Kind) (size : ℕ) (n : Info) (first : ℤ) (row : List Info)
    → AreOfKind kind size row → IsOf kind size (picked n first row)
picked_kind kind size n first [] h = search rules
picked_kind kind size n first (a ∷ row) h = hull_kind kind size _ _
    (part_kind kind size (may_be n first) a h.0)
    (picked_kind kind size n (first +ℤ pos 1) row h.1)

pub picked_holds : (n : Info) (first v : ℤ) (row : List Info) (points : List Point)
    (point : Point) → Holds n (Number v) → IsInRange v → EachHolds row points
    → IsEntry v first points point → Holds (picked n first row) point
picked_holds n first v (a ∷ row) (p ∷ points) point h r e (inl i) =
    hull_holds_first _ _ point (part_held (may_be n first) a point
    (subst (λ k. may_be n k ≡ true) i.0 (held_may_be n v h r)) (rw i.1 e.0))
picked_holds n first v (a ∷ row) (p ∷ points) point h r e (inr i) =
    hull_holds_second (if may_be n first then a else Contradiction) _ point
    (picked_holds n (first +ℤ pos 1) v row points point h r e.1 i)
picked_holds n first v [] [] point h r e i = absurd i
picked_holds n first v row points point h r e i = search rules

-- ---- the number

both_true : (s t s' t' : Bool) → (s' ≡ true → s ≡ true) → (t' ≡ true → t ≡ true)
    → (s' && t') ≡ true → (s && t) ≡ true
both_true s t s' t' h k e = let a = and_parts s' t' e in join s t (h a.0) (k a.1)
  where
    join : (s t : Bool) → s ≡ true → t ≡ true → (s && t) ≡ true
    join true true e f = refl
    join true false e f = absurd (never f)
    join false t e f = absurd (never e)

pub found_below : (v v' n n' : Info) (first : ℤ) (olds news : List Info) → Below v v'
    → AreWithin n n' → EachBelow olds news → Below (found v n first olds) (found v' n' first news)
found_below v v' n n' first [] [] q w p = tt
found_below v v' n n' first (a ∷ olds) (a' ∷ news) q w p =
    hull_below _ _ _ _ (part_below (may_be n first && meets a v) (may_be n' first && meets a' v')
    (clip first first) (clip first first) (both_true (may_be n first) (meets a v) (may_be n' first)
    (meets a' v') (may_be_less n n' first w) (meets_less a v a' v' p.0 q))
    (info_laws.reflexive (clip first first)))
    (found_below v v' n n' (first +ℤ pos 1) olds news q w p.1)
found_below v v' n n' first olds news q w p = search rules

pub found_kind : (v n : Info) (first : ℤ) (row : List Info)
    → IsOf kinds.Span 0 (found v n first row)
found_kind v n first [] = tt
found_kind v n first (a ∷ row) = hull_kind kinds.Span 0 _ _
    (part_kind kinds.Span 0 (may_be n first && meets a v) (clip first first)
    (clip_of_span 0 first first)) (found_kind v n (first +ℤ pos 1) row)

pub found_holds : (v n : Info) (first i : ℤ) (row : List Info) (points : List Point)
    (point : Point) → Holds v point → Holds n (Number i) → IsInRange i → EachHolds row points
    → IsEntry i first points point → Holds (found v n first row) (Number i)
found_holds v n first i (a ∷ row) (p ∷ points) point g h r e (inl k) =
    hull_holds_first _ _ (Number i) (part_held (may_be n first && meets a v) (clip first first)
    (Number i) (both_here (may_be n first) (meets a v)
    (subst (λ j. may_be n j ≡ true) k.0 (held_may_be n i h r)) (held_meet a v point (rw k.1 e.0) g))
    (rw (← k.0) (clip_holds i i i (omega (arith, ints)) (omega (arith, ints)) r.0 r.1)))
  where
    both_here : (s t : Bool) → s ≡ true → t ≡ true → (s && t) ≡ true
    both_here true true e f = refl
    both_here true false e f = absurd (never f)
    both_here false t e f = absurd (never e)
found_holds v n first i (a ∷ row) (p ∷ points) point g h r e (inr k) =
    hull_holds_second
    (if may_be n first && meets a v then clip first first else Contradiction) _ (Number i)
    (found_holds v n (first +ℤ pos 1) i row points point g h r e.1 k)
found_holds v n first i [] [] point g h r e k = absurd k
found_holds v n first i row points point g h r e k = search rules

-- ---- the entry of this number

at_once : (l h l' h' : ℤ) → l ≡ h → l ≤ℤ l' → l' ≤ℤ h' → h' ≤ℤ h → l' ≡ h'
at_once l h l' h' e p q r = same_in _ _ (omega (arith, ints, e))

known_stays : (n n' j j' : Info) → AreWithin n n' → AreWithin j j' → is_known_as n j ≡ true
    → is_known_as n' j' ≡ true
known_stays n n' j j' w u e =
    let o = ends_ordered n' in
    let i = ends_ordered j' in
    let a = and_parts (int_eq (low_of n) (high_of n)) (int_eq (low_of j) (high_of j)
    && int_eq (low_of n) (low_of j)) e in
    let b = and_parts (int_eq (low_of j) (high_of j)) (int_eq (low_of n) (low_of j)) a.1 in
    join _ _ _ (one _ _ _ _ a.0 w.low o.ordered w.high) (one _ _ _ _ b.0 u.low i.ordered u.high)
    (same _ _ _ _ _ _ _ _ a.0 b.0 b.1 w.low o.ordered w.high u.low i.ordered u.high)
  where
    one : (l h l' h' : ℤ) → int_eq l h ≡ true → l ≤ℤ l' → l' ≤ℤ h' → h' ≤ℤ h
        → int_eq l' h' ≡ true
    one l h l' h' e p q r = (Decides-int_eq l' h').1
        (at_once l h l' h' ((Decides-int_eq l h).0 e) p q r)

    same : (l h m k l' h' m' k' : ℤ) → int_eq l h ≡ true → int_eq m k ≡ true → int_eq l m ≡ true
        → l ≤ℤ l' → l' ≤ℤ h' → h' ≤ℤ h → m ≤ℤ m' → m' ≤ℤ k' → k' ≤ℤ k → int_eq l' m' ≡ true
    same l h m k l' h' m' k' a b c d e f g i j = (Decides-int_eq l' m').1
        (same_in _ _ (omega (
          arith,
          ints,
          (Decides-int_eq l h).0 a,
          (Decides-int_eq m k).0 b,
          (Decides-int_eq l m).0 c,
        )))

    join : (r s t : Bool) → r ≡ true → s ≡ true → t ≡ true → (r && (s && t)) ≡ true
    join true true true a b c = refl
    join false s t a b c = absurd (never a)
    join true false t a b c = absurd (never b)
    join true true false a b c = absurd (never c)

pub entry_below : (n j v n' j' v' : Info) → Below n n' → Below j j' → Below v v'
    → n' ≢ Contradiction → j' ≢ Contradiction → v' ≢ Contradiction
    → Below (entry_of n j v) (entry_of n' j' v')
entry_below n j v n' j' v' p q r l m k =
    by (is_known_as n j) (is_known_as n' j')
    (known_stays n n' j j' (ends_within n n' p l) (ends_within j j' q m))
  where
    by : (s t : Bool) → (s ≡ true → t ≡ true)
        → Below (if s then v else Nothing) (if t then v' else Nothing)
    by true true h = r
    by true false h = absurd (never (h refl))
    by false t h = tt

pub entry_kind : (kind : Kind) (size : ℕ) (n j v : Info) → IsOf kind size v
    → IsOf kind size (entry_of n j v)
entry_kind kind size n j v h = by (is_known_as n j)
  where
    by : (s : Bool) → IsOf kind size (if s then v else Nothing)
    by true = h
    by false = search rules

pub entry_holds : (n j v : Info) (a b : ℤ) (p point : Point) → Holds n (Number a) → IsInRange a
    → Holds j (Number b) → IsInRange b → Holds v p → (a ≡ b → point ≡ p)
    → Holds (entry_of n j v) point
entry_holds n j v a b p point h r i s e f = by (is_known_as n j) refl
  where
    by : (t : Bool) → is_known_as n j ≡ t → Holds (if t then v else Nothing) point
    by false g = tt
    by true g =
        let x = held_between n a h r in
        let y = held_between j b i s in
        let c = and_parts (int_eq (low_of n) (high_of n)) (int_eq (low_of j) (high_of j)
        && int_eq (low_of n) (low_of j)) g in
        let d = and_parts (int_eq (low_of j) (high_of j)) (int_eq (low_of n) (low_of j)) c.1 in
        subst (Holds v) (sym (f (alike _ _ _ _ a b c.0 d.0 d.1 x.from x.to y.from y.to))) e
      where
        alike : (l h m k a b : ℤ) → int_eq l h ≡ true → int_eq m k ≡ true → int_eq l m ≡ true
            → l ≤ℤ a → a ≤ℤ h → m ≤ℤ b → b ≤ℤ k → a ≡ b
        alike l h m k a b c d e f g i j = same_in _ _ (omega (
          arith,
          ints,
          (Decides-int_eq l h).0 c,
          (Decides-int_eq m k).0 d,
          (Decides-int_eq l m).0 e,
        ))
