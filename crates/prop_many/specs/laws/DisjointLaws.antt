-- The laws of starts of tasks that may not overlap others.
use Rattle.std.specs.Prelude.{◌≡◌, ℤ, pos, neg_ℤ, ◌+ℤ◌, ◌-ℤ◌, ◌≤ℤ◌, ◌<ℤ◌, Bool, true, false}
use Rattle.std.specs.Prelude.{int_lt, ◌&&◌, if◌then◌else◌, List, [], ◌∷◌}
use Rattle.std.specs.Int.{int_max, int_min}
use Rattle.std.proofs.Common.{arith, refl, rules, sym, subst}
use Rattle.std.proofs.lemmas.Int.{ints, clamps, by_lt_z}
use Rattle.prop_lattice.specs.Order.{Below}
use Rattle.prop_lattice.specs.Points.{Point, Number, Holds}
use Rattle.prop_lattice.specs.Rank.{IsOf}
use Rattle.prop_lattice.specs.declared.info.Info.{Info}
use Rattle.prop_lattice.specs.declared.info.Kind.TheVariants as kinds
use Rattle.prop_lattice.specs.declared.span.TheConstants.{B}
use Rattle.prop_wide.specs.Ends.{low_of, high_of}
use Rattle.prop_wide.specs.laws.EndLaws.{AreWithin, IsBetween, ends_ordered}
use Rattle.prop_wide.specs.laws.EndLaws.{known_below, known_holds, known_kind}
use Rattle.prop_many.specs.Disjoint.{AreApart, IsApart, RelatesDisjoint, disjoint_of, earliest_of}
use Rattle.prop_many.specs.Disjoint.{is_behind, latest_of}
use Rattle.prop_many.specs.Loads.{end_of}
use Rattle.prop_many.specs.laws.NumberLaws.{AreCloser, AreKept, both_true, never}

-- ---- to come behind

-- what the three tests say
three : (a b c d : ℤ) → ((int_lt (pos 0) a && int_lt (pos 0) b) && int_lt c d) ≡ true
    → (pos 0 <ℤ a) × (pos 0 <ℤ b) × (c <ℤ d)
three a b c d = by (int_lt (pos 0) a) refl (int_lt (pos 0) b) refl (int_lt c d) refl
  where
    by : (r : Bool) → int_lt (pos 0) a ≡ r → (s : Bool) → int_lt (pos 0) b ≡ s → (t : Bool)
        → int_lt c d ≡ t → ((r && s) && t) ≡ true → (pos 0 <ℤ a) × (pos 0 <ℤ b) × (c <ℤ d)
    by true e true f true g h = (omega (arith, ints), omega (arith, ints), omega (arith, ints))
    by true e true f false g h = absurd (never h)
    by true e false f t g h = absurd (never h)
    by false e s f t g h = absurd (never h)

pub lt_true : (a b : ℤ) → a <ℤ b → int_lt a b ≡ true
lt_true a b p = by (int_lt a b) refl
  where
    by : (t : Bool) → int_lt a b ≡ t → t ≡ true
    by true e = refl
    by false e = absurd (omega (arith, ints))

behind_more : (s l o m s' l' o' m' : Info) → AreWithin s s' → AreWithin l l' → AreWithin o o'
    → AreWithin m m' → is_behind s l o m ≡ true → is_behind s' l' o' m' ≡ true
behind_more s l o m s' l' o' m' a b c d e =
    let h = three (low_of l) (low_of m) (high_of o) (end_of s l) e in
    both_true _ _
    (both_true _ _
    (lt_true (pos 0) (low_of l') (through (pos 0) (low_of l) (low_of l') h.0 b.low))
    (lt_true (pos 0) (low_of m') (through (pos 0) (low_of m) (low_of m') h.1 d.low)))
    (lt_true (high_of o') (end_of s' l') (wider (high_of o') (high_of o) (low_of s) (low_of s')
    (low_of l) (low_of l') c.high h.2 a.low b.low))
  where
    through : (a b c : ℤ) → a <ℤ b → b ≤ℤ c → a <ℤ c
    through a b c p q = omega (arith, ints)

    wider : (h' h s s' l l' : ℤ) → h' ≤ℤ h → h <ℤ (s +ℤ l) → s ≤ℤ s' → l ≤ℤ l'
        → h' <ℤ (s' +ℤ l')
    wider h' h s s' l l' p q r t = omega (arith, ints)

-- a task that ends behind the start of another, which it doesn't overlap, starts no earlier than
-- the end of that
pub comes_behind : (v l u w : ℤ) → pos 0 <ℤ l → pos 0 <ℤ w → u <ℤ (v +ℤ l) → AreApart v l u w
    → (u +ℤ w) ≤ℤ v
comes_behind v l u w p q r apart = by_lt_z v (u +ℤ w)
    (λ lt. by_lt_z v u
    (λ k. absurd (apart u (omega (arith, ints)) r (omega (arith, ints)) (omega (arith, ints))))
    (λ g. absurd (apart v (omega (arith, ints)) (omega (arith, ints)) g lt)))
    (λ g. g)

-- ---- where more is known

later_of_two : (t t' : Bool) (e e' x x' : ℤ) → (t ≡ true → t' ≡ true) → e ≤ℤ e' → x ≤ℤ x'
    → (if t then int_max e x else e) ≤ℤ (if t' then int_max e' x' else e')
later_of_two true true e e' x x' h p q = omega (arith, ints, clamps)
later_of_two true false e e' x x' h p q = absurd (never (h refl))
later_of_two false true e e' x x' h p q = omega (arith, ints, clamps)
later_of_two false false e e' x x' h p q = p

sooner_of_two : (t t' : Bool) (e e' x x' : ℤ) → (t ≡ true → t' ≡ true) → e' ≤ℤ e → x' ≤ℤ x
    → (if t' then int_min e' x' else e') ≤ℤ (if t then int_min e x else e)
sooner_of_two true true e e' x x' h p q = omega (arith, ints, clamps)
sooner_of_two true false e e' x x' h p q = absurd (never (h refl))
sooner_of_two false true e e' x x' h p q = omega (arith, ints, clamps)
sooner_of_two false false e e' x x' h p q = p

sum_grows : (a b c d : ℤ) → a ≤ℤ b → c ≤ℤ d → (a +ℤ c) ≤ℤ (b +ℤ d)
sum_grows a b c d p q = omega (arith, ints)

difference_shrinks : (a b c d : ℤ) → b ≤ℤ a → c ≤ℤ d → (b -ℤ d) ≤ℤ (a -ℤ c)
difference_shrinks a b c d p q = omega (arith, ints)

earliest_grows : (s l s' l' : Info) (olds news : List Info) → AreWithin s s' → AreWithin l l'
    → AreCloser olds news → earliest_of s l olds ≤ℤ earliest_of s' l' news
earliest_grows s l s' l' (o ∷ m ∷ olds) (o' ∷ m' ∷ news) a b c =
    later_of_two (is_behind s l o m) (is_behind s' l' o' m') _ _ _ _
    (behind_more s l o m s' l' o' m' a b c.0 c.1.0)
    (earliest_grows s l s' l' olds news a b c.1.1)
    (sum_grows (low_of o) (low_of o') (low_of m) (low_of m') c.0.low c.1.0.low)
earliest_grows s l s' l' (o ∷ m ∷ olds) [] a b c = absurd c
earliest_grows s l s' l' (o ∷ m ∷ olds) (o' ∷ []) a b c = absurd c.1
earliest_grows s l s' l' (o ∷ []) (o' ∷ []) a b c = a.low
earliest_grows s l s' l' (o ∷ []) [] a b c = absurd c
earliest_grows s l s' l' (o ∷ []) (o' ∷ m' ∷ news) a b c = absurd c.1
earliest_grows s l s' l' [] [] a b c = a.low
earliest_grows s l s' l' [] (o' ∷ news) a b c = absurd c

latest_shrinks : (s l s' l' : Info) (olds news : List Info) → AreWithin s s' → AreWithin l l'
    → AreCloser olds news → latest_of s' l' news ≤ℤ latest_of s l olds
latest_shrinks s l s' l' (o ∷ m ∷ olds) (o' ∷ m' ∷ news) a b c =
    sooner_of_two (is_behind o m s l) (is_behind o' m' s' l') _ _ _ _
    (behind_more o m s l o' m' s' l' c.0 c.1.0 a b)
    (latest_shrinks s l s' l' olds news a b c.1.1)
    (difference_shrinks (high_of o) (high_of o') (low_of l) (low_of l') c.0.high b.low)
latest_shrinks s l s' l' (o ∷ m ∷ olds) [] a b c = absurd c
latest_shrinks s l s' l' (o ∷ m ∷ olds) (o' ∷ []) a b c = absurd c.1
latest_shrinks s l s' l' (o ∷ []) (o' ∷ []) a b c = a.high
latest_shrinks s l s' l' (o ∷ []) [] a b c = absurd c
latest_shrinks s l s' l' (o ∷ []) (o' ∷ m' ∷ news) a b c = absurd c.1
latest_shrinks s l s' l' [] [] a b c = a.high
latest_shrinks s l s' l' [] (o' ∷ news) a b c = absurd c

pub disjoint_below : (olds news : List Info) → AreCloser olds news
    → Below (disjoint_of olds) (disjoint_of news)
disjoint_below (s ∷ l ∷ olds) (s' ∷ l' ∷ news) p =
    known_below _ _ _ _ (earliest_grows s l s' l' olds news p.0 p.1.0 p.1.1)
    (latest_shrinks s l s' l' olds news p.0 p.1.0 p.1.1)
disjoint_below (s ∷ l ∷ olds) [] p = absurd p
disjoint_below (s ∷ l ∷ olds) (s' ∷ []) p = absurd p.1
disjoint_below olds news p = tt

pub disjoint_kind : (args : List Info) → IsOf kinds.Span 0 (disjoint_of args)
disjoint_kind (s ∷ l ∷ others) = known_kind 0 _ _
disjoint_kind args = tt

-- ---- what belongs together

at_least : (t : Bool) (e x v : ℤ) → e ≤ℤ v → (t ≡ true → x ≤ℤ v)
    → (if t then int_max e x else e) ≤ℤ v
at_least true e x v p h = let q = h refl in omega (arith, ints, clamps)
at_least false e x v p h = p

at_most : (t : Bool) (e x v : ℤ) → v ≤ℤ e → (t ≡ true → v ≤ℤ x)
    → v ≤ℤ (if t then int_min e x else e)
at_most true e x v p h = let q = h refl in omega (arith, ints, clamps)
at_most false e x v p h = p

-- where the first task is sure to come behind the other, and they don't overlap, it starts no
-- earlier than the other ends
behind_then : (s l o m : Info) (v w u x : ℤ) → IsBetween s v → IsBetween l w → IsBetween o u
    → IsBetween m x → AreApart v w u x → is_behind s l o m ≡ true → (u +ℤ x) ≤ℤ v
behind_then s l o m v w u x a b c d apart e =
    let h = three (low_of l) (low_of m) (high_of o) (end_of s l) e in
    comes_behind v w u x (through (low_of l) w h.0 b.from) (through (low_of m) x h.1 d.from)
    (under (high_of o) (low_of s) (low_of l) c.to h.2 a.from b.from) apart
  where
    through : (b c : ℤ) → pos 0 <ℤ b → b ≤ℤ c → pos 0 <ℤ c
    through b c p q = omega (arith, ints)

    under : (h k n : ℤ) → u ≤ℤ h → h <ℤ (k +ℤ n) → k ≤ℤ v → n ≤ℤ w → u <ℤ (v +ℤ w)
    under h k n p q r t = omega (arith, ints)

swapped : (v w u x : ℤ) → AreApart v w u x → AreApart u x v w
swapped v w u x apart time p q r s = apart time r s p q

earliest_held : (s l : Info) (v w : ℤ) (others : List Info) (points : List Point) → IsBetween s v
    → IsBetween l w → AreKept others points → IsApart v w points
    → earliest_of s l others ≤ℤ v
earliest_held s l v w (o ∷ m ∷ others) (Number u ∷ Number x ∷ points) a b k r =
    at_least (is_behind s l o m) _ _ v (earliest_held s l v w others points a b k.1.1 r.1)
    (λ e. ends (low_of o) (low_of m) k.0.from k.1.0.from
    (behind_then s l o m v w u x a b k.0 k.1.0 r.0 e))
  where
    ends : (e f : ℤ) → e ≤ℤ u → f ≤ℤ x → (u +ℤ x) ≤ℤ v → (e +ℤ f) ≤ℤ v
    ends e f p q r = omega (arith, ints)
earliest_held s l v w (o ∷ []) points a b k r = a.from
earliest_held s l v w [] points a b k r = a.from
earliest_held s l v w (o ∷ m ∷ others) points a b k r = search rules

latest_held : (s l : Info) (v w : ℤ) (others : List Info) (points : List Point) → IsBetween s v
    → IsBetween l w → AreKept others points → IsApart v w points
    → v ≤ℤ latest_of s l others
latest_held s l v w (o ∷ m ∷ others) (Number u ∷ Number x ∷ points) a b k r =
    at_most (is_behind o m s l) _ _ v (latest_held s l v w others points a b k.1.1 r.1)
    (λ e. ends (high_of o) (low_of l) k.0.to b.from
    (behind_then o m s l u x v w k.0 k.1.0 a b (swapped v w u x r.0) e))
  where
    ends : (e f : ℤ) → u ≤ℤ e → f ≤ℤ w → (v +ℤ w) ≤ℤ u → v ≤ℤ (e -ℤ f)
    ends e f p q r = omega (arith, ints)
latest_held s l v w (o ∷ []) points a b k r = a.to
latest_held s l v w [] points a b k r = a.to
latest_held s l v w (o ∷ m ∷ others) points a b k r = search rules

pub disjoint_holds : (args : List Info) (points : List Point) (point : Point) → AreKept args points
    → RelatesDisjoint points point → Holds (disjoint_of args) point
disjoint_holds (s ∷ l ∷ others) (Number v ∷ Number w ∷ points) point k r =
    let o = ends_ordered s in
    subst (Holds (disjoint_of (s ∷ l ∷ others))) (sym r.0)
    (known_holds _ _ v (earliest_held s l v w others points k.0 k.1.0 k.1.1 r.1)
    (latest_held s l v w others points k.0 k.1.0 k.1.1 r.1)
    (through (neg_ℤ B) (low_of s) v o.above k.0.from, through v (high_of s) B k.0.to o.below))
  where
    through : (a b c : ℤ) → a ≤ℤ b → b ≤ℤ c → a ≤ℤ c
    through a b c p q = omega (arith, ints)
disjoint_holds args points point k r = search rules
