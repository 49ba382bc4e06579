-- The laws of counting truths.
use Rattle.std.specs.Prelude.{◌≡◌, ◌≢◌, ℕ, zero, suc, ◌+◌, ◌≤◌, ◌<◌, ℤ, pos, ◌≤ℤ◌, Bool, true}
use Rattle.std.specs.Prelude.{false}
use Rattle.std.specs.Prelude.{not, cond, ◌==◌, List, [], ◌∷◌, length, filter}
use Rattle.std.proofs.Common.{arith, refl, rules}
use Rattle.std.proofs.lemmas.Int.{ints}
use Rattle.prop_intervals.specs.laws.ClipLaws.{clip_below, clip_of_span, clip_holds}
use Rattle.prop_intervals.specs.laws.Relations.{IsInRange}
use Rattle.prop_lattice.specs.Order.{Below}
use Rattle.prop_lattice.specs.Points.{Point, Number, Element, Symbol, Holds, IsPointOf}
use Rattle.prop_lattice.specs.Rank.{IsOf}
use Rattle.prop_lattice.specs.declared.info.Info.{Info}
use Rattle.prop_lattice.specs.declared.info.Info.TheVariants.{Contradiction}
use Rattle.prop_lattice.specs.declared.info.Kind.TheVariants as kinds
use Rattle.prop_procedures.specs.declared.shape.Kinded.{Kinded}
use Rattle.prop_procedures.specs.declared.shape.Shape.{Shape}
use Rattle.prop_procedures.specs.declared.shape.Shape.TheVariants.{Truth, Span as SpanShape, Any}
use Rattle.prop_procedures.specs.declared.shape.Shape.TheVariants.{From, To}
use Rattle.prop_procedures.specs.Rules.{EachBelow, EachHolds}
use Rattle.prop_procedures.specs.inner.Places.{ArePointsOf}
use Rattle.prop_sets.specs.Truth.{leaves}
use Rattle.prop_wide.specs.Counts.{yes_among, sure_of, possible_of, count_of, count_back_of}
use Rattle.prop_wide.specs.Ends.{low_of, high_of}
use Rattle.prop_wide.specs.Points.{RelatesCount}
use Rattle.prop_wide.specs.Wide.{AreTruths, is_truth}
use Rattle.std.specs.List.{list_all}
use Rattle.std.proofs.lemmas.Bool.{and_parts}
use Rattle.prop_wide.specs.laws.EndLaws.{ends_within, held_between, both_le}
use Rattle.prop_wide.specs.laws.EndLaws.{both_from, both_to}
use Rattle.prop_wide.specs.laws.TruthLaws.{leaves_less, held_is_left, told_below, told_kind, never}
use Rattle.prop_wide.specs.laws.TruthLaws.{told_holds_yes, told_holds_no}

-- ---- how many are sure and possible

-- a test that passes where another does counts for no less
counted_more : (s t : Bool) (x y : Info) (xs ys : List Info) → (s ≡ true → t ≡ true)
    → length xs ≤ length ys → length (cond s (x ∷ xs) xs) ≤ length (cond t (y ∷ ys) ys)
counted_more true true x y xs ys h p = omega (arith, p)
counted_more true false x y xs ys h p = absurd (never (h refl))
counted_more false true x y xs ys h p = omega (arith, p)
counted_more false false x y xs ys h p = p

not_less : (s t : Bool) → (t ≡ true → s ≡ true) → not s ≡ true → not t ≡ true
not_less true t h e = absurd (never e)
not_less false true h e = absurd (never (h refl))
not_less false false h e = refl

possible_less : (olds news : List Info) → EachBelow olds news
    → possible_of news ≤ possible_of olds
possible_less [] [] p = omega arith
possible_less (t ∷ olds) (t' ∷ news) p = counted_more (leaves t' 0) (leaves t 0) t' t
    (filter (λ t. leaves t 0) news) (filter (λ t. leaves t 0) olds) (leaves_less t t' 0 p.0)
    (possible_less olds news p.1)
possible_less [] (t' ∷ news) p = absurd p
possible_less (t ∷ olds) [] p = absurd p

sure_more : (olds news : List Info) → EachBelow olds news → sure_of olds ≤ sure_of news
sure_more [] [] p = omega arith
sure_more (t ∷ olds) (t' ∷ news) p = counted_more (not (leaves t 1)) (not (leaves t' 1)) t t'
    (filter (λ t. not (leaves t 1)) olds) (filter (λ t. not (leaves t 1)) news)
    (not_less (leaves t 1) (leaves t' 1) (leaves_less t t' 1 p.0)) (sure_more olds news p.1)
sure_more [] (t' ∷ news) p = absurd p
sure_more (t ∷ olds) [] p = absurd p

-- a truth counts for `yes` where it is sure, and is possible where it does
one_between : (t : Info) (i : ℕ) (sure possible : List Info) (n : ℕ) → i < 2 → Holds t (Element i)
    → length sure ≤ n → n ≤ length possible
    → (length (cond (not (leaves t 1)) (t ∷ sure) sure) ≤ cond (i == 0) 1 0 + n)
    × (cond (i == 0) 1 0 + n ≤ length (cond (leaves t 0) (t ∷ possible) possible))
one_between t zero sure possible n l h p q =
    (at_most (not (leaves t 1)), at_least (leaves t 0) (held_is_left t 0 h))
  where
    at_most : (s : Bool) → length (cond s (t ∷ sure) sure) ≤ 1 + n
    at_most true = omega (arith, p)
    at_most false = omega (arith, p)

    at_least : (s : Bool) → s ≡ true → 1 + n ≤ length (cond s (t ∷ possible) possible)
    at_least true e = omega (arith, q)
    at_least false e = absurd (never e)
one_between t (suc zero) sure possible n l h p q =
    (at_most (leaves t 1) (held_is_left t 1 h), at_least (leaves t 0))
  where
    at_most : (s : Bool) → s ≡ true → length (cond (not s) (t ∷ sure) sure) ≤ 0 + n
    at_most true e = omega (arith, p)
    at_most false e = absurd (never e)

    at_least : (s : Bool) → 0 + n ≤ length (cond s (t ∷ possible) possible)
    at_least true = omega (arith, q)
    at_least false = omega (arith, q)
one_between t (suc (suc i)) sure possible n l h p q = absurd (omega (arith, l))

pub first_is_truth : (s : Shape) (shapes : List Shape) → AreTruths (s ∷ shapes) → s ≡ Truth
first_is_truth s shapes f = by s (and_parts (is_truth s) (list_all is_truth shapes) f).0
  where
    by : (s : Shape) → is_truth s ≡ true → s ≡ Truth
    by Truth e = refl
    by SpanShape e = absurd (never e)
    by (Any n) e = absurd (never e)
    by From e = absurd (never e)
    by To e = absurd (never e)

pub others_are_truths : (s : Shape) (shapes : List Shape) → AreTruths (s ∷ shapes)
    → AreTruths shapes
others_are_truths s shapes f = (and_parts (is_truth s) (list_all is_truth shapes) f).1

-- points that the truths leave are as many `yes` as is sure at least, and as is possible at most
pub yes_between : (any : Shape → Kinded) (ins : List Shape) (truths : List Info)
    (points : List Point) → AreTruths ins → ArePointsOf any ins points → EachHolds truths points
    → (sure_of truths ≤ yes_among points) × (yes_among points ≤ possible_of truths)
yes_between any ins [] [] f ps e = (omega arith, omega arith)
yes_between any (s ∷ ins) (t ∷ truths) (p ∷ points) f ps e =
    by p (rw (first_is_truth s ins f) at ps.0) e.0
    (yes_between any ins truths points (others_are_truths s ins f) ps.1 e.1)
  where
    by : (p : Point) → IsPointOf (kinds.Set 0) 2 p → Holds t p
        → (sure_of truths ≤ yes_among points) × (yes_among points ≤ possible_of truths)
        → (sure_of (t ∷ truths) ≤ yes_among (p ∷ points))
        × (yes_among (p ∷ points) ≤ possible_of (t ∷ truths))
    by (Element i) l h k = one_between t i (filter (λ t. not (leaves t 1)) truths)
        (filter (λ t. leaves t 0) truths) (yes_among points) l h k.0 k.1
    by (Number v) l h k = absurd l
    by (Symbol n) l h k = absurd l
yes_between any [] truths (p ∷ points) f ps e = absurd ps
yes_between any (s ∷ ins) truths [] f ps e = absurd ps
yes_between any ins [] (p ∷ points) f ps e = absurd e
yes_between any ins (t ∷ truths) [] f ps e = absurd e

-- ---- the count

pub count_below : (olds news : List Info) → EachBelow olds news
    → Below (count_of olds) (count_of news)
count_below olds news p =
    let more = sure_more olds news p in
    let less = possible_less olds news p in
    clip_below _ _ _ _ (omega (arith, ints, more)) (omega (arith, ints, less))

pub count_kind : (truths : List Info) → IsOf kinds.Span 0 (count_of truths)
count_kind truths = clip_of_span 0 _ _

pub count_sound : (any : Shape → Kinded) (ins : List Shape) (truths : List Info)
    (points : List Point) (point : Point) → AreTruths ins → ArePointsOf any ins points
    → IsPointOf kinds.Span 0 point → EachHolds truths points → RelatesCount points point
    → Holds (count_of truths) point
count_sound any ins truths points (Number n) f ps k e r =
    let between = yes_between any ins truths points f ps e in
    clip_holds _ _ n (rw r (omega (arith, ints, between.0))) (rw r (omega (arith, ints, between.1)))
    k.0 k.1
count_sound any ins truths points point f ps k e r = search rules

-- ---- and back

-- closer bounds hold less
both_less : (l p s h l' p' s' h' : ℤ) → l ≤ℤ l' → p' ≤ℤ p → s ≤ℤ s' → h' ≤ℤ h
    → both_le l' p' s' h' ≡ true → both_le l p s h ≡ true
both_less l p s h l' p' s' h' a b c d e =
    let to = both_to l' p' s' h' e in
    both_from l p s h (through l l' p' p a to.0 b) (through s s' h' h c to.1 d)
  where
    through : (m n o q : ℤ) → m ≤ℤ n → n ≤ℤ o → o ≤ℤ q → m ≤ℤ q
    through m n o q i j k = omega (arith, ints)

as_numbers : (m n : ℕ) → m ≤ n → pos m ≤ℤ pos n
as_numbers m n p = omega (arith, ints)

as_next : (m n : ℕ) → m ≤ n → pos (m + 1) ≤ℤ pos (n + 1)
as_next m n p = omega (arith, ints)

pub count_back_below : (n n' : Info) (olds news : List Info) → Below n n' → n' ≢ Contradiction
    → EachBelow olds news → Below (count_back_of n olds) (count_back_of n' news)
count_back_below n n' olds news p m q =
    let a = ends_within n n' p m in
    let more = sure_more olds news q in
    let less = possible_less olds news q in
    told_below _ _ _ _
    (both_less _ _ _ _ _ _ _ _ a.low (as_next _ _ less) (as_next _ _ more) a.high)
    (both_less _ _ _ _ _ _ _ _ a.low (as_numbers _ _ less) (as_numbers _ _ more) a.high)

pub count_back_kind : (n : Info) (others : List Info)
    → IsOf (kinds.Set 0) 2 (count_back_of n others)
count_back_kind n others = told_kind _ _

pub count_back_holds : (any : Shape → Kinded) (ins : List Shape) (n : Info) (others : List Info)
    (v : ℤ) (points : List Point) (t : ℕ) → AreTruths ins → ArePointsOf any ins points
    → IsInRange v → t < 2 → Holds n (Number v) → EachHolds others points
    → v ≡ pos (yes_among (Element t ∷ points)) → Holds (count_back_of n others) (Element t)
count_back_holds any ins n others v points zero f ps r l h e is =
    let between = yes_between any ins others points f ps e in
    let a = held_between n v h r in
    told_holds_yes _ _ (both_from _ _ _ _
    (under (low_of n) v (yes_among points) (possible_of others) a.from is between.1)
    (over (high_of n) v (yes_among points) (sure_of others) a.to is between.0))
  where
    under : (l v : ℤ) (y p : ℕ) → l ≤ℤ v → v ≡ pos (1 + y) → y ≤ p → l ≤ℤ pos (p + 1)
    under l v y p h e k = omega (arith, ints)

    over : (o v : ℤ) (y s : ℕ) → v ≤ℤ o → v ≡ pos (1 + y) → s ≤ y → pos (s + 1) ≤ℤ o
    over o v y s h e k = omega (arith, ints)
count_back_holds any ins n others v points (suc zero) f ps r l h e is =
    let between = yes_between any ins others points f ps e in
    let a = held_between n v h r in
    told_holds_no _ _ (both_from _ _ _ _
    (under (low_of n) v (yes_among points) (possible_of others) a.from is between.1)
    (over (high_of n) v (yes_among points) (sure_of others) a.to is between.0))
  where
    under : (l v : ℤ) (y p : ℕ) → l ≤ℤ v → v ≡ pos (0 + y) → y ≤ p → l ≤ℤ pos p
    under l v y p h e k = omega (arith, ints)

    over : (o v : ℤ) (y s : ℕ) → v ≤ℤ o → v ≡ pos (0 + y) → s ≤ y → pos s ≤ℤ o
    over o v y s h e k = omega (arith, ints)
count_back_holds any ins n others v points (suc (suc t)) f ps r l h e is = absurd (omega (arith, l))
