-- The laws of numbers that are all different.
use Rattle.std.specs.Prelude.{◌≡◌, ◌⊎◌, ℕ, zero, suc, ◌+◌, ◌<◌, ◌≤◌, nat_lt, min, ℤ, pos, neg_ℤ}
use Rattle.std.specs.Prelude.{◌+ℤ◌, ◌-ℤ◌, ◌≤ℤ◌, ◌<ℤ◌, int_le, int_lt, Bool, true, false, ◌&&◌, ◌||◌}
use Rattle.std.specs.Prelude.{if◌then◌else◌, List, [], ◌∷◌, length}
use Rattle.std.specs.Int.{int_max, int_min}
use Rattle.std.proofs.Common.{arith, refl, sym, subst, ap, ◌∙◌, inl, inr}
use Rattle.std.proofs.lemmas.Bool.{cases_eq}
use Rattle.std.proofs.lemmas.Bool.Decides.{nat_tests}
use Rattle.std.proofs.lemmas.Int.{ints, clamps, by_lt_z}
use Rattle.prop_hall.specs.Points.{AreDifferent, IsNoneOf}
use Rattle.prop_lattice.specs.Order.{Below}
use Rattle.prop_lattice.specs.Points.{Point, Number, Element, Symbol, Holds}
use Rattle.prop_lattice.specs.Rank.{IsOf}
use Rattle.prop_lattice.specs.declared.info.Info.{Info}
use Rattle.prop_lattice.specs.declared.info.Info.TheVariants.{Contradiction}
use Rattle.prop_lattice.specs.declared.info.Kind.TheVariants as kinds
use Rattle.prop_lattice.specs.declared.span.TheConstants.{B}
use Rattle.prop_lattice.specs.laws.OrderLaws.{info_laws}
use Rattle.prop_wide.specs.Ends.{low_of, high_of, known}
use Rattle.prop_wide.specs.laws.EndLaws.{AreWithin, ends_ordered}
use Rattle.prop_wide.specs.laws.EndLaws.{known_below, known_holds, known_kind}
use Rattle.prop_many.specs.Differ.{RelatesDiffer, any_crowded, before, before_all, behind}
use Rattle.prop_many.specs.Differ.{differ_of, is_crowded, left_beside, lies_in, lying_in, past}
use Rattle.prop_many.specs.Differ.{past_all, widest, width_of}
use Rattle.prop_many.specs.laws.DisjointLaws.{lt_true}
use Rattle.prop_many.specs.laws.NumberLaws.{AreCloser, AreKept, both_true, le_true, never}

-- ---- orders and tests

pub less_from : (n m : ℕ) → nat_lt n m ≡ true → n < m
less_from n m e = grind (arith, nat_tests)

pub less_to : (n m : ℕ) → n < m → nat_lt n m ≡ true
less_to n m l = grind (arith, nat_tests)

pub no_less : (n m : ℕ) → nat_lt n m ≡ false → m ≤ n
no_less n m e = grind (arith, nat_tests)

pub le_le : (a b c : ℤ) → a ≤ℤ b → b ≤ℤ c → a ≤ℤ c
le_le a b c p q = omega (arith, ints)

le_lt : (a b c : ℤ) → a ≤ℤ b → b <ℤ c → a <ℤ c
le_lt a b c p q = omega (arith, ints)

pub lt_le_not : (a b : ℤ) → a <ℤ b → b ≤ℤ a → ⊥
lt_le_not a b p q = omega (arith, ints)

reflexive : (a : ℤ) → a ≤ℤ a
reflexive a = omega (arith, ints)

or_left : (a b : Bool) → a ≡ true → (a || b) ≡ true
or_left true b e = refl
or_left false b e = absurd (never e)

or_right : (a b : Bool) → b ≡ true → (a || b) ≡ true
or_right true b e = refl
or_right false b e = e

pub in_parts : (a b c d : ℤ) → (int_le a b && int_lt c d) ≡ true → (a ≤ℤ b) × (c <ℤ d)
in_parts a b c d = by (int_le a b) refl (int_lt c d) refl
  where
    by : (s : Bool) → int_le a b ≡ s → (t : Bool) → int_lt c d ≡ t → (s && t) ≡ true
        → (a ≤ℤ b) × (c <ℤ d)
    by true e true f g = (omega (arith, ints), omega (arith, ints))
    by true e false f g = absurd (never g)
    by false e t f g = absurd (never g)

pub in_both : (a b c d : ℤ) → a ≤ℤ b → c <ℤ d → (int_le a b && int_lt c d) ≡ true
in_both a b c d p q = both_true _ _ (le_true a b p) (lt_true c d q)

-- two tests are the same where each follows from the other
pub same_test : (s t : Bool) → (s ≡ true → t ≡ true) → (t ≡ true → s ≡ true) → s ≡ t
same_test true true p q = refl
same_test true false p q = absurd (never (p refl))
same_test false true p q = absurd (never (q refl))
same_test false false p q = refl

-- ---- who lies in an interval

abbrev pub ones : Bool → ℕ
ones b = if b then 1 else 0

ones_le : (s t : Bool) → (s ≡ true → t ≡ true) → ones s ≤ ones t
ones_le true true h = omega arith
ones_le true false h = absurd (never (h refl))
ones_le false true h = omega arith
ones_le false false h = omega arith

sums_le : (a b c d : ℕ) → a ≤ b → c ≤ d → a + c ≤ b + d
sums_le a b c d p q = omega arith

lies_more : (o o' : Info) (a : ℤ) (w : ℕ) → AreWithin o o' → lies_in o a w ≡ true
    → lies_in o' a w ≡ true
lies_more o o' a w c e =
    let p = in_parts a (low_of o) (high_of o) (a +ℤ pos w) e in
    in_both a (low_of o') (high_of o') (a +ℤ pos w)
    (le_le a (low_of o) (low_of o') p.0 c.low)
    (le_lt (high_of o') (high_of o) (a +ℤ pos w) c.high p.1)

lying_grows : (olds news : List Info) (a : ℤ) (w : ℕ) → AreCloser olds news
    → lying_in olds a w ≤ lying_in news a w
lying_grows [] [] a w c = omega arith
lying_grows (o ∷ olds) (n ∷ news) a w c =
    sums_le _ _ _ _ (ones_le (lies_in o a w) (lies_in n a w) (lies_more o n a w c.0))
    (lying_grows olds news a w c.1)
lying_grows [] (n ∷ news) a w c = absurd c
lying_grows (o ∷ olds) [] a w c = absurd c

pub lying_few : (others : List Info) (a : ℤ) (w : ℕ) → lying_in others a w ≤ length others
lying_few [] a w = omega arith
lying_few (o ∷ others) a w = by (lies_in o a w) (lying_few others a w)
  where
    by : (t : Bool) → lying_in others a w ≤ length others
        → ones t + lying_in others a w ≤ suc (length others)
    by true h = omega (arith, h)
    by false h = omega (arith, h)

-- none lies in an interval of no numbers
pub lying_none : (others : List Info) (a : ℤ) → lying_in others a 0 ≡ 0
lying_none [] a = refl
lying_none (o ∷ others) a = by (lies_in o a 0) refl (lying_none others a)
  where
    not_both : (l h : ℤ) → a ≤ℤ l → l ≤ℤ h → h <ℤ (a +ℤ pos 0) → ⊥
    not_both l h p q r = omega (arith, ints)

    by : (t : Bool) → lies_in o a 0 ≡ t → lying_in others a 0 ≡ 0
        → ones t + lying_in others a 0 ≡ 0
    by true e h =
        let p = in_parts a (low_of o) (high_of o) (a +ℤ pos 0) e in
        absurd (not_both (low_of o) (high_of o) p.0 (ends_ordered o).ordered p.1)
    by false e h = omega (arith, h)

-- the low end of one of the list is the number
abbrev pub Begins : List Info → ℤ → Type 0
Begins [] a = ⊥
Begins (o ∷ others) a = (low_of o ≡ a) ⊎ Begins others a

lies_behind : (o : Info) (a : ℤ) (w : ℕ) → (low_of o ≡ a → ⊥)
    → lies_in o a (suc w) ≡ lies_in o (a +ℤ pos 1) w
lies_behind o a w n = same_test _ _
    (λ e. let p = in_parts a (low_of o) (high_of o) (a +ℤ pos (suc w)) e in
    in_both (a +ℤ pos 1) (low_of o) (high_of o) ((a +ℤ pos 1) +ℤ pos w)
    (more (low_of o) n p.0) (less (high_of o) p.1))
    (λ e. let p = in_parts (a +ℤ pos 1) (low_of o) (high_of o) ((a +ℤ pos 1) +ℤ pos w) e in
    in_both a (low_of o) (high_of o) (a +ℤ pos (suc w))
    (before_it (low_of o) p.0) (behind_it (high_of o) p.1))
  where
    more : (l : ℤ) → (l ≡ a → ⊥) → a ≤ℤ l → (a +ℤ pos 1) ≤ℤ l
    more l n p = by_lt_z a l (λ q. omega (arith, ints))
        (λ q. absurd (n (omega (arith, ints))))

    less : (h : ℤ) → h <ℤ (a +ℤ pos (suc w)) → h <ℤ ((a +ℤ pos 1) +ℤ pos w)
    less h p = omega (arith, ints)

    before_it : (l : ℤ) → (a +ℤ pos 1) ≤ℤ l → a ≤ℤ l
    before_it l p = omega (arith, ints)

    behind_it : (h : ℤ) → h <ℤ ((a +ℤ pos 1) +ℤ pos w) → h <ℤ (a +ℤ pos (suc w))
    behind_it h p = omega (arith, ints)

same_or : (l a : ℤ) → (l ≡ a) ⊎ (l ≡ a → ⊥)
same_or l a = by_lt_z l a (λ p. inr (λ e. omega (arith, ints)))
    (λ p. by_lt_z a l (λ q. inr (λ e. omega (arith, ints))) (λ q. inl (omega (arith, ints))))

-- as many of the others lie in an interval from a on as in this interval without a
abbrev AreBehind : List Info → ℤ → Type 0
AreBehind others a = (w : ℕ) → lying_in others a (suc w) ≡ lying_in others (a +ℤ pos 1) w

-- the low end of one of the others is a, or else the interval without a has as many
begins_or : (others : List Info) (a : ℤ) → Begins others a ⊎ AreBehind others a
begins_or [] a = inr (λ w. refl)
begins_or (o ∷ others) a = by (same_or (low_of o) a) (begins_or others a)
  where
    by : (low_of o ≡ a) ⊎ (low_of o ≡ a → ⊥) → Begins others a ⊎ AreBehind others a
        → Begins (o ∷ others) a ⊎ AreBehind (o ∷ others) a
    by (inl e) h = inl (inl e)
    by (inr n) (inl b) = inl (inr b)
    by (inr n) (inr h) = inr (λ w. λ i. ones (lies_behind o a w n i) + h w i)

-- ---- the widest Hall interval

pub width_le : (others : List Info) (a : ℤ) (n : ℕ) → width_of others a n ≤ n
width_le others a zero = omega arith
width_le others a (suc n) =
    by (nat_lt n (lying_in others a (suc n))) (width_of others a n) (width_le others a n)
  where
    by : (t : Bool) (w : ℕ) → w ≤ n → (if t then suc n else w) ≤ suc n
    by true w h = omega arith
    by false w h = omega arith

-- in the widest Hall interval lie as many of the others as it has numbers, or more
pub width_is_hall : (others : List Info) (a : ℤ) (n : ℕ)
    → width_of others a n ≤ lying_in others a (width_of others a n)
width_is_hall others a zero = omega arith
width_is_hall others a (suc n) =
    by (nat_lt n (lying_in others a (suc n))) refl (width_is_hall others a n)
  where
    by : (t : Bool) → nat_lt n (lying_in others a (suc n)) ≡ t
        → width_of others a n ≤ lying_in others a (width_of others a n)
        → (if t then suc n else width_of others a n)
        ≤ lying_in others a (if t then suc n else width_of others a n)
    by true e h = omega (arith, less_from n (lying_in others a (suc n)) e)
    by false e h = h

-- and no Hall interval from a on is wider
hall_width : (others : List Info) (a : ℤ) (w n : ℕ) → w ≤ n → w ≤ lying_in others a w
    → w ≤ width_of others a n
hall_width others a w zero p h = p
hall_width others a w (suc n) p h =
    by (nat_lt n (lying_in others a (suc n))) refl (cases_eq w (suc n))
    (λ q. hall_width others a w n q h)
  where
    by : (t : Bool) → nat_lt n (lying_in others a (suc n)) ≡ t → (w ≡ suc n) ⊎ (w ≡ suc n → ⊥)
        → (w ≤ n → w ≤ width_of others a n) → w ≤ (if t then suc n else width_of others a n)
    by true e d f = p
    by false e (inl same) f =
        let few = no_less n (lying_in others a (suc n)) e in
        let all = subst (λ v. v ≤ lying_in others a v) same h in absurd (omega (arith, few, all))
    by false e (inr other) f = f (omega (arith, p, other))

-- ---- intervals in which more lie than they have numbers

record IsCrowd (others : List Info) (a : ℤ) (n : ℕ) : Type 0 where
  width : ℕ
  some : 1 ≤ width
  fits : width ≤ n
  more : width < lying_in others a width

crowded_from : (others : List Info) (a : ℤ) (w n : ℕ) → 1 ≤ w → w ≤ n → w < lying_in others a w
    → is_crowded others a n ≡ true
crowded_from others a w zero some p h = absurd (omega (arith, some, p))
crowded_from others a w (suc n) some p h =
    by (cases_eq w (suc n)) (λ q. crowded_from others a w n some q h)
  where
    by : (w ≡ suc n) ⊎ (w ≡ suc n → ⊥) → (w ≤ n → is_crowded others a n ≡ true)
        → is_crowded others a (suc n) ≡ true
    by (inl same) f =
        or_right (is_crowded others a n) _
        (less_to (suc n) (lying_in others a (suc n))
        (subst (λ v. v < lying_in others a v) same h))
    by (inr other) f = or_left (is_crowded others a n) _ (f (omega (arith, p, other)))

crowd_in : (others : List Info) (a : ℤ) (n : ℕ) → is_crowded others a n ≡ true
    → IsCrowd others a n
crowd_in others a zero e = absurd (never e)
crowd_in others a (suc n) e = by (is_crowded others a n) refl (crowd_in others a n) e
  where
    by : (t : Bool) → is_crowded others a n ≡ t
        → (is_crowded others a n ≡ true → IsCrowd others a n)
        → (t || nat_lt (suc n) (lying_in others a (suc n))) ≡ true → IsCrowd others a (suc n)
    by true f h g =
        let c = h f in
        record { width = c.width; some = c.some; fits = omega (arith, c.fits); more = c.more }
    by false f h g = record {
      width = suc n;
      some = omega arith;
      fits = omega arith;
      more = less_from (suc n) (lying_in others a (suc n)) g;
    }

-- the first number of some interval that is crowded
record SomeCrowd (others : List Info) : Type 0 where
  first : ℤ
  crowd : IsCrowd others first (widest others)

some_crowd : (others starting : List Info) → any_crowded others starting ≡ true
    → SomeCrowd others
some_crowd others [] e = absurd (never e)
some_crowd others (o ∷ starting) e =
    by (is_crowded others (low_of o) (widest others)) refl (some_crowd others starting) e
  where
    by : (t : Bool) → is_crowded others (low_of o) (widest others) ≡ t
        → (any_crowded others starting ≡ true → SomeCrowd others)
        → (t || any_crowded others starting) ≡ true → SomeCrowd others
    by true f h g =
        record { first = low_of o; crowd = crowd_in others (low_of o) (widest others) f }
    by false f h g = h g

crowded_known : (others starting : List Info) (a : ℤ) → Begins starting a
    → is_crowded others a (widest others) ≡ true → any_crowded others starting ≡ true
crowded_known others [] a b e = absurd b
crowded_known others (o ∷ starting) a (inl s) e =
    or_left _ _ (subst (λ c. is_crowded others c (widest others) ≡ true) (sym s) e)
crowded_known others (o ∷ starting) a (inr b) e =
    or_right (is_crowded others (low_of o) (widest others)) _
    (crowded_known others starting a b e)

-- So each crowded interval is seen: where one is crowded, one is that begins with the low end of
-- one of the others.
pub crowd_seen : (others : List Info) (w : ℕ) (a : ℤ) → 1 ≤ w → w ≤ widest others
    → w < lying_in others a w → any_crowded others others ≡ true
crowd_seen others zero a some p h = absurd (omega (arith, some))
crowd_seen others (suc w) a some p h = by w refl (begins_or others a)
    (crowd_seen others w (a +ℤ pos 1))
  where
    by : (v : ℕ) → w ≡ v → Begins others a ⊎ AreBehind others a
        → (1 ≤ w → w ≤ widest others → w < lying_in others (a +ℤ pos 1) w
        → any_crowded others others ≡ true)
        → any_crowded others others ≡ true
    by v e (inl b) f =
        crowded_known others others a b
        (crowded_from others a (suc w) (widest others) some p h)
    by zero e (inr s) f =
        let none = lying_none others (a +ℤ pos 1) in
        let same = s w in
        let at = ap (lying_in others (a +ℤ pos 1)) e in
        absurd (omega (arith, none, same, at, h))
    by (suc v) e (inr s) f =
        let same = s w in
        f (omega (arith, e)) (omega (arith, p)) (omega (arith, same, h))

-- where no interval is crowded, each Hall interval begins with the low end of one of the others
pub hall_begins : (others : List Info) (w : ℕ) (a : ℤ) → 1 ≤ w → w ≤ widest others
    → w ≤ lying_in others a w → any_crowded others others ≡ false → Begins others a
hall_begins others zero a some p h n = absurd (omega (arith, some))
hall_begins others (suc w) a some p h n = by w refl (begins_or others a)
  where
    by : (v : ℕ) → w ≡ v → Begins others a ⊎ AreBehind others a → Begins others a
    by v e (inl b) = b
    by zero e (inr s) =
        let none = lying_none others (a +ℤ pos 1) in
        let same = s w in
        let at = ap (lying_in others (a +ℤ pos 1)) e in
        absurd (omega (arith, none, same, at, h))
    by (suc v) e (inr s) =
        let same = s w in
        absurd (never (sym n ∙ crowd_seen others w (a +ℤ pos 1) (omega (arith, e))
        (omega (arith, p)) (omega (arith, same, h))))

-- ---- past the intervals

past_above : (a b v e : ℤ) → e ≤ℤ past a b v e
past_above a b v e = by (int_le a v && int_lt v b)
  where
    by : (t : Bool) → e ≤ℤ (if t then int_max e b else e)
    by true = omega (arith, ints, clamps)
    by false = omega (arith, ints)

past_behind : (a b v e : ℤ) → a ≤ℤ v → v <ℤ b → b ≤ℤ past a b v e
past_behind a b v e p q = by (int_le a v && int_lt v b) (in_both a v v b p q)
  where
    by : (t : Bool) → t ≡ true → b ≤ℤ (if t then int_max e b else e)
    by true f = omega (arith, ints, clamps)
    by false f = absurd (never f)

past_under : (a b v e c : ℤ) → e ≤ℤ c → (a ≤ℤ v → v <ℤ b → b ≤ℤ c) → past a b v e ≤ℤ c
past_under a b v e c p h = by (int_le a v && int_lt v b) refl
  where
    by : (t : Bool) → (int_le a v && int_lt v b) ≡ t → (if t then int_max e b else e) ≤ℤ c
    by true f = let q = in_parts a v v b f in
        let r = h q.0 q.1 in omega (arith, ints, clamps)
    by false f = p

before_below : (a b v e : ℤ) → before a b v e ≤ℤ e
before_below a b v e = by (int_le a v && int_lt v b)
  where
    by : (t : Bool) → (if t then int_min e (a -ℤ pos 1) else e) ≤ℤ e
    by true = omega (arith, ints, clamps)
    by false = omega (arith, ints)

before_first : (a b v e : ℤ) → a ≤ℤ v → v <ℤ b → before a b v e <ℤ a
before_first a b v e p q = by (int_le a v && int_lt v b) (in_both a v v b p q)
  where
    by : (t : Bool) → t ≡ true → (if t then int_min e (a -ℤ pos 1) else e) <ℤ a
    by true f = omega (arith, ints, clamps)
    by false f = absurd (never f)

before_over : (a b v e c : ℤ) → c ≤ℤ e → (a ≤ℤ v → v <ℤ b → c <ℤ a) → c ≤ℤ before a b v e
before_over a b v e c p h = by (int_le a v && int_lt v b) refl
  where
    by : (t : Bool) → (int_le a v && int_lt v b) ≡ t
        → c ≤ℤ (if t then int_min e (a -ℤ pos 1) else e)
    by true f = let q = in_parts a v v b f in
        let r = h q.0 q.1 in omega (arith, ints, clamps)
    by false f = p

-- the least number past all these intervals

pub past_all_above : (others starting : List Info) (v e : ℤ) → e ≤ℤ past_all others starting v e
past_all_above others [] v e = reflexive e
past_all_above others (o ∷ starting) v e =
    let next = past (low_of o) (behind others (low_of o)) v e in
    le_le e next (past_all others starting v next)
    (past_above (low_of o) (behind others (low_of o)) v e)
    (past_all_above others starting v next)

pub past_all_behind : (others starting : List Info) (a v e : ℤ) → Begins starting a → a ≤ℤ v
    → v <ℤ behind others a → behind others a ≤ℤ past_all others starting v e
past_all_behind others [] a v e b p q = absurd b
past_all_behind others (o ∷ starting) a v e (inl s) p q =
    let next = past (low_of o) (behind others (low_of o)) v e in
    le_le (behind others a) next (past_all others starting v next)
    (subst (λ c. behind others a ≤ℤ past c (behind others c) v e) (sym s)
    (past_behind a (behind others a) v e p q))
    (past_all_above others starting v next)
past_all_behind others (o ∷ starting) a v e (inr b) p q =
    past_all_behind others starting a v (past (low_of o) (behind others (low_of o)) v e) b p q

past_all_under : (others starting : List Info) (v e c : ℤ) → e ≤ℤ c
    → ((a : ℤ) → Begins starting a → a ≤ℤ v → v <ℤ behind others a → behind others a ≤ℤ c)
    → past_all others starting v e ≤ℤ c
past_all_under others [] v e c p h = p
past_all_under others (o ∷ starting) v e c p h =
    past_all_under others starting v (past (low_of o) (behind others (low_of o)) v e) c
    (past_under (low_of o) (behind others (low_of o)) v e c p (h (low_of o) (inl refl)))
    (λ a b. h a (inr b))

pub before_all_below : (others starting : List Info) (v e : ℤ) → before_all others starting v e ≤ℤ e
before_all_below others [] v e = reflexive e
before_all_below others (o ∷ starting) v e =
    let next = before (low_of o) (behind others (low_of o)) v e in
    le_le (before_all others starting v next) next e
    (before_all_below others starting v next)
    (before_below (low_of o) (behind others (low_of o)) v e)

pub before_all_first : (others starting : List Info) (a v e : ℤ) → Begins starting a → a ≤ℤ v
    → v <ℤ behind others a → before_all others starting v e <ℤ a
before_all_first others [] a v e b p q = absurd b
before_all_first others (o ∷ starting) a v e (inl s) p q =
    let next = before (low_of o) (behind others (low_of o)) v e in
    le_lt (before_all others starting v next) next a
    (before_all_below others starting v next)
    (subst (λ c. before c (behind others c) v e <ℤ a) (sym s)
    (before_first a (behind others a) v e p q))
before_all_first others (o ∷ starting) a v e (inr b) p q =
    before_all_first others starting a v (before (low_of o) (behind others (low_of o)) v e) b p q

before_all_over : (others starting : List Info) (v e c : ℤ) → c ≤ℤ e
    → ((a : ℤ) → Begins starting a → a ≤ℤ v → v <ℤ behind others a → c <ℤ a)
    → c ≤ℤ before_all others starting v e
before_all_over others [] v e c p h = p
before_all_over others (o ∷ starting) v e c p h =
    before_all_over others starting v (before (low_of o) (behind others (low_of o)) v e) c
    (before_over (low_of o) (behind others (low_of o)) v e c p (h (low_of o) (inl refl)))
    (λ a b. h a (inr b))

-- a Hall interval, and the number behind it

pub width_there : (others : List Info) (a v : ℤ) → a ≤ℤ v → v <ℤ behind others a
    → 1 ≤ width_of others a (widest others)
width_there others a v p q = by (width_of others a (widest others)) q
  where
    by : (w : ℕ) → v <ℤ (a +ℤ pos w) → 1 ≤ w
    by zero r = absurd (omega (arith, ints))
    by (suc w) r = omega arith

pub behind_of : (others : List Info) (a : ℤ) (w : ℕ) → w ≤ widest others → w ≤ lying_in others a w
    → (a +ℤ pos w) ≤ℤ behind others a
behind_of others a w p h =
    by (width_of others a (widest others)) (hall_width others a w (widest others) p h)
  where
    by : (v : ℕ) → w ≤ v → (a +ℤ pos w) ≤ℤ (a +ℤ pos v)
    by v r = omega (arith, ints)

-- ---- where more is known

lt_le : (a b c : ℤ) → a <ℤ b → b ≤ℤ c → a <ℤ c
lt_le a b c p q = omega (arith, ints)

closer_long : (olds news : List Info) → AreCloser olds news → length olds ≡ length news
closer_long [] [] c = refl
closer_long (o ∷ olds) (n ∷ news) c = ap suc (closer_long olds news c.1)
closer_long [] (n ∷ news) c = absurd c
closer_long (o ∷ olds) [] c = absurd c

widest_same : (olds news : List Info) → AreCloser olds news → widest olds ≡ widest news
widest_same olds news c = ap (λ n. min n 64) (closer_long olds news c)

crowds : (olds news : List Info) → AreCloser olds news → any_crowded olds olds ≡ true
    → any_crowded news news ≡ true
crowds olds news c e =
    let s = some_crowd olds olds e in
    let w = s.crowd.width in
    crowd_seen news w s.first s.crowd.some
    (omega (arith, s.crowd.fits, widest_same olds news c))
    (omega (arith, s.crowd.more, lying_grows olds news s.first w c))

-- where more is known, one of the others begins with a, and their Hall interval from a on has w
-- numbers or more
record IsHallOf (news : List Info) (a : ℤ) (w : ℕ) : Type 0 where
  begins : Begins news a
  reaches : (a +ℤ pos w) ≤ℤ behind news a

hall_stays : (olds news : List Info) (a v : ℤ) → AreCloser olds news
    → any_crowded news news ≡ false → a ≤ℤ v → v <ℤ behind olds a
    → IsHallOf news a (width_of olds a (widest olds))
hall_stays olds news a v c n p q =
    let w = width_of olds a (widest olds) in
    let fits : w ≤ widest news = omega (
      arith,
      width_le olds a (widest olds),
      widest_same olds news c,
    ) in
    let hall : w ≤ lying_in news a w = omega (
      arith,
      width_is_hall olds a (widest olds),
      lying_grows olds news a w c,
    ) in
    record {
      begins = hall_begins news w a (width_there olds a v p q) fits hall n;
      reaches = behind_of news a w fits hall;
    }

past_grows : (olds news : List Info) (l l' : ℤ) → AreCloser olds news → l ≤ℤ l'
    → any_crowded news news ≡ false → past_all olds olds l l ≤ℤ past_all news news l' l'
past_grows olds news l l' c p n =
    past_all_under olds olds l l all (le_le l l' all p (past_all_above news news l' l'))
    (λ a b q r. reach a q r (hall_stays olds news a l c n q r))
  where
    all : ℤ
    all = past_all news news l' l'

    reach : (a : ℤ) → a ≤ℤ l → l <ℤ behind olds a
        → IsHallOf news a (width_of olds a (widest olds)) → behind olds a ≤ℤ all
    reach a q r h = by_lt_z l' (behind olds a)
        (λ lt. le_le (behind olds a) (behind news a) all h.reaches
        (past_all_behind news news a l' l' h.begins (le_le a l l' q p)
        (lt_le l' (behind olds a) (behind news a) lt h.reaches)))
        (λ ge. le_le (behind olds a) l' all ge (past_all_above news news l' l'))

before_shrinks : (olds news : List Info) (h h' : ℤ) → AreCloser olds news → h' ≤ℤ h
    → any_crowded news news ≡ false → before_all news news h' h' ≤ℤ before_all olds olds h h
before_shrinks olds news h h' c p n =
    before_all_over olds olds h h all (le_le all h' h (before_all_below news news h' h') p)
    (λ a b q r. reach a q r (hall_stays olds news a h c n q r))
  where
    all : ℤ
    all = before_all news news h' h'

    reach : (a : ℤ) → a ≤ℤ h → h <ℤ behind olds a
        → IsHallOf news a (width_of olds a (widest olds)) → all <ℤ a
    reach a q r s = by_lt_z h' a
        (λ lt. le_lt all h' a (before_all_below news news h' h') lt)
        (λ ge. before_all_first news news a h' h' s.begins ge
        (le_lt h' h (behind news a) p (lt_le h (behind olds a) (behind news a) r s.reaches)))

left_below : (o n : Info) (olds news : List Info) → AreWithin o n → AreCloser olds news
    → Below (left_beside o olds) (left_beside n news)
left_below o n olds news c d =
    by (any_crowded news news) refl (any_crowded olds olds) refl
  where
    by : (t : Bool) → any_crowded news news ≡ t → (s : Bool) → any_crowded olds olds ≡ s
        → Below (if s then Contradiction else known (past_all olds olds (low_of o) (low_of o))
        (before_all olds olds (high_of o) (high_of o)))
        (if t then Contradiction else known (past_all news news (low_of n) (low_of n))
        (before_all news news (high_of n) (high_of n)))
    by true e s f = info_laws.to_top _
    by false e true f = absurd (never (sym e ∙ crowds olds news d f))
    by false e false f = known_below _ _ _ _
        (past_grows olds news (low_of o) (low_of n) d c.low e)
        (before_shrinks olds news (high_of o) (high_of n) d c.high e)

pub differ_below : (olds news : List Info) → AreCloser olds news
    → Below (differ_of olds) (differ_of news)
differ_below [] [] c = tt
differ_below (o ∷ olds) (n ∷ news) c = left_below o n olds news c.0 c.1
differ_below [] (n ∷ news) c = absurd c
differ_below (o ∷ olds) [] c = absurd c

pub differ_kind : (args : List Info) → IsOf kinds.Span 0 (differ_of args)
differ_kind [] = tt
differ_kind (o ∷ others) = by (any_crowded others others)
  where
    by : (t : Bool) → IsOf kinds.Span 0 (if t then Contradiction
        else known (past_all others others (low_of o) (low_of o))
        (before_all others others (high_of o) (high_of o)))
    by true = tt
    by false = known_kind 0 _ _

-- ---- different numbers in an interval

-- the number stands in the interval
abbrev stands_in : Point → ℤ → ℕ → Bool
stands_in (Number v) a w = int_le a v && int_lt v (a +ℤ pos w)
stands_in (Element i) a w = false
stands_in (Symbol n) a w = false

abbrev standing_in : List Point → ℤ → ℕ → ℕ
standing_in [] a w = 0
standing_in (p ∷ points) a w = ones (stands_in p a w) + standing_in points a w

lying_stands : (others : List Info) (points : List Point) (a : ℤ) (w : ℕ) → AreKept others points
    → lying_in others a w ≤ standing_in points a w
lying_stands [] [] a w k = omega arith
lying_stands (o ∷ others) (Number v ∷ points) a w k =
    sums_le _ _ _ _ (ones_le (lies_in o a w) (stands_in (Number v) a w) stands)
    (lying_stands others points a w k.1)
  where
    stands : lies_in o a w ≡ true → stands_in (Number v) a w ≡ true
    stands e =
        let p = in_parts a (low_of o) (high_of o) (a +ℤ pos w) e in
        in_both a v v (a +ℤ pos w) (le_le a (low_of o) v p.0 k.0.from)
        (le_lt v (high_of o) (a +ℤ pos w) k.0.to p.1)
lying_stands (o ∷ others) (Element i ∷ points) a w k = absurd k.0
lying_stands (o ∷ others) (Symbol n ∷ points) a w k = absurd k.0
lying_stands [] (p ∷ points) a w k = absurd k
lying_stands (o ∷ others) [] a w k = absurd k

split_le : (s t u : Bool) → (s ≡ true → (t ≡ true) ⊎ (u ≡ true)) → ones s ≤ ones t + ones u
split_le false t u h = omega arith
split_le true true u h = omega arith
split_le true false true h = omega arith
split_le true false false h = by (h refl)
  where
    by : (false ≡ true) ⊎ (false ≡ true) → 1 ≤ 0
    by (inl e) = absurd (never e)
    by (inr e) = absurd (never e)

sums_split : (a b c x y z : ℕ) → a ≤ b + c → x ≤ y + z → a + x ≤ (b + y) + (c + z)
sums_split a b c x y z p q = omega arith

stands_or : (p : Point) (a : ℤ) (w : ℕ) → stands_in p a (suc w) ≡ true
    → (stands_in p a w ≡ true) ⊎ (stands_in p (a +ℤ pos w) 1 ≡ true)
stands_or (Number v) a w e =
    let p = in_parts a v v (a +ℤ pos (suc w)) e in
    by_lt_z v (a +ℤ pos w) (λ q. inl (in_both a v v (a +ℤ pos w) p.0 q))
    (λ q. inr (in_both (a +ℤ pos w) v v ((a +ℤ pos w) +ℤ pos 1) q (next p.1)))
  where
    next : v <ℤ (a +ℤ pos (suc w)) → v <ℤ ((a +ℤ pos w) +ℤ pos 1)
    next q = omega (arith, ints)
stands_or (Element i) a w e = absurd (never e)
stands_or (Symbol n) a w e = absurd (never e)

-- in an interval with one number more stand those that stood in it, and those that are that number
standing_next : (points : List Point) (a : ℤ) (w : ℕ)
    → standing_in points a (suc w) ≤ standing_in points a w + standing_in points (a +ℤ pos w) 1
standing_next [] a w = omega arith
standing_next (p ∷ points) a w =
    sums_split _ _ _ _ _ _
    (split_le (stands_in p a (suc w)) (stands_in p a w) (stands_in p (a +ℤ pos w) 1)
    (stands_or p a w))
    (standing_next points a w)

stands_is : (p : Point) (c : ℤ) → stands_in p c 1 ≡ true → Number c ≡ p
stands_is (Number v) c e =
    let p = in_parts c v v (c +ℤ pos 1) e in ap Number (same p.0 p.1)
  where
    same : c ≤ℤ v → v <ℤ (c +ℤ pos 1) → c ≡ v
    same p q = omega (arith, ints)
stands_is (Element i) c e = absurd (never e)
stands_is (Symbol n) c e = absurd (never e)

none_standing : (c : ℤ) (points : List Point) → IsNoneOf (Number c) points
    → standing_in points c 1 ≤ 0
none_standing c [] n = omega arith
none_standing c (p ∷ points) n =
    by (stands_in p c 1) refl (none_standing c points n.1)
  where
    by : (t : Bool) → stands_in p c 1 ≡ t → standing_in points c 1 ≤ 0
        → ones t + standing_in points c 1 ≤ 0
    by true e h = absurd (n.0 (stands_is p c e))
    by false e h = omega (arith, h)

one_standing : (c : ℤ) (points : List Point) → AreDifferent points → standing_in points c 1 ≤ 1
one_standing c [] d = omega arith
one_standing c (p ∷ points) d = by (stands_in p c 1) refl (one_standing c points d.1)
  where
    by : (t : Bool) → stands_in p c 1 ≡ t → standing_in points c 1 ≤ 1
        → ones t + standing_in points c 1 ≤ 1
    by true e h =
        let none = none_standing c points
        (subst (λ q. IsNoneOf q points) (sym (stands_is p c e)) d.0) in
        omega (arith, none)
    by false e h = omega (arith, h)

none_nowhere : (points : List Point) (a : ℤ) → standing_in points a 0 ≤ 0
none_nowhere [] a = omega arith
none_nowhere (p ∷ points) a = by (stands_in p a 0) (nowhere p) (none_nowhere points a)
  where
    nowhere : (p : Point) → stands_in p a 0 ≡ true → ⊥
    nowhere (Number v) e =
        let p = in_parts a v v (a +ℤ pos 0) e in lt_le_not v a (none p.1) p.0
      where
        none : v <ℤ (a +ℤ pos 0) → v <ℤ a
        none q = omega (arith, ints)
    nowhere (Element i) e = never e
    nowhere (Symbol n) e = never e

    by : (t : Bool) → (t ≡ true → ⊥) → standing_in points a 0 ≤ 0
        → ones t + standing_in points a 0 ≤ 0
    by true n h = absurd (n refl)
    by false n h = omega (arith, h)

-- of different numbers no more stand in an interval than it has numbers
room : (points : List Point) (a : ℤ) (w : ℕ) → AreDifferent points → standing_in points a w ≤ w
room points a zero d = none_nowhere points a
room points a (suc w) d =
    omega (
      arith,
      standing_next points a w,
      one_standing (a +ℤ pos w) points d,
      room points a w d,
    )

-- ---- what belongs together

no_crowd : (others : List Info) (points : List Point) → AreKept others points
    → AreDifferent points → any_crowded others others ≡ false
no_crowd others points k d = by (any_crowded others others) refl
  where
    by : (t : Bool) → any_crowded others others ≡ t → t ≡ false
    by false e = refl
    by true e =
        let s = some_crowd others others e in
        let w = s.crowd.width in
        absurd (omega (
          arith,
          s.crowd.more,
          lying_stands others points s.first w k,
          room points s.first w d,
        ))

-- a number that differs from all others stands in no Hall interval of these
hall_is_full : (others : List Info) (points : List Point) (a v : ℤ) → AreKept others points
    → AreDifferent (Number v ∷ points) → a ≤ℤ v → v <ℤ behind others a → ⊥
hall_is_full others points a v k d p q =
    let w = width_of others a (widest others) in
    let in_it : ones (stands_in (Number v) a w) ≡ 1 = ap ones (in_both a v v (a +ℤ pos w) p q) in
    omega (
      arith,
      width_is_hall others a (widest others),
      lying_stands others points a w k,
      room (Number v ∷ points) a w d,
      in_it,
    )

past_holds : (others : List Info) (points : List Point) (l v : ℤ) → AreKept others points
    → AreDifferent (Number v ∷ points) → l ≤ℤ v → past_all others others l l ≤ℤ v
past_holds others points l v k d p =
    past_all_under others others l l v p
    (λ a b q r. by_lt_z v (behind others a)
    (λ lt. absurd (hall_is_full others points a v k d (le_le a l v q p) lt)) (λ ge. ge))

before_holds : (others : List Info) (points : List Point) (h v : ℤ) → AreKept others points
    → AreDifferent (Number v ∷ points) → v ≤ℤ h → v ≤ℤ before_all others others h h
before_holds others points h v k d p =
    before_all_over others others h h v p
    (λ a b q r. by_lt_z v a (λ lt. lt)
    (λ ge. absurd (hall_is_full others points a v k d ge (le_lt v h (behind others a) p r))))

pub differ_holds : (args : List Info) (points : List Point) (point : Point) → AreKept args points
    → RelatesDiffer points point → Holds (differ_of args) point
differ_holds (o ∷ others) (Number v ∷ points) point k r =
    subst (Holds (differ_of (o ∷ others))) (sym r.0)
    (by (any_crowded others others) (no_crowd others points k.1 r.1.1))
  where
    in_range : (neg_ℤ B ≤ℤ v) × (v ≤ℤ B)
    in_range =
        let ends = ends_ordered o in (
          le_le (neg_ℤ B) (low_of o) v ends.above k.0.from,
          le_le v (high_of o) B k.0.to ends.below,
        )

    by : (t : Bool) → t ≡ false → Holds (if t then Contradiction
        else known (past_all others others (low_of o) (low_of o))
        (before_all others others (high_of o) (high_of o))) (Number v)
    by true e = absurd (never (sym e))
    by false e =
        known_holds _ _ v (past_holds others points (low_of o) v k.1 r.1 k.0.from)
        (before_holds others points (high_of o) v k.1 r.1 k.0.to) in_range
differ_holds (o ∷ others) (Element i ∷ points) point k r = absurd k.0
differ_holds (o ∷ others) (Symbol n ∷ points) point k r = absurd k.0
differ_holds (o ∷ others) [] point k r = absurd k
differ_holds [] (p ∷ points) point k r = absurd k
differ_holds [] [] point k r = absurd r

-- ---- single numbers among the others

-- one of the others leaves only this number
pub record IsShown (others : List Info) (v : ℤ) : Type 0 where
  pub begins : Begins others v
  pub lies : 1 ≤ lying_in others v 1

pub single_lies : (o : Info) (v : ℤ) → low_of o ≡ v → high_of o ≡ v → ones (lies_in o v 1) ≡ 1
single_lies o v p q =
    ap ones (in_both v (low_of o) (high_of o) (v +ℤ pos 1) (from (low_of o) p) (to (high_of o) q))
  where
    from : (l : ℤ) → l ≡ v → v ≤ℤ l
    from l e = omega (arith, ints)

    to : (h : ℤ) → h ≡ v → h <ℤ (v +ℤ pos 1)
    to h e = omega (arith, ints)

pub shown_here : (o : Info) (others : List Info) (v : ℤ) → low_of o ≡ v → high_of o ≡ v
    → IsShown (o ∷ others) v
shown_here o others v p q =
    record { begins = inl p; lies = omega (arith, single_lies o v p q) }

pub shown_later : (o : Info) (others : List Info) (v : ℤ) → IsShown others v
    → IsShown (o ∷ others) v
shown_later o others v s = record { begins = inr s.begins; lies = omega (arith, s.lies) }

-- so the number to which `past_all` leads from this one lies behind it
pub shown_past : (others : List Info) (l v : ℤ) → IsShown others v → l ≡ v
    → v <ℤ past_all others others l l
shown_past others l v s e =
    let some : 1 ≤ widest others = omega (arith, s.lies, lying_few others v 1) in
    let reaches = behind_of others v 1 some s.lies in
    subst (λ n. v <ℤ past_all others others n n) (sym e)
    (lt_le v (behind others v) (past_all others others v v) (over (behind others v) reaches)
    (past_all_behind others others v v v s.begins (reflexive v) (over (behind others v) reaches)))
  where
    over : (b : ℤ) → (v +ℤ pos 1) ≤ℤ b → v <ℤ b
    over b p = omega (arith, ints)

-- where no interval is crowded, no two of the others are just one and the same number
pub no_two : (others : List Info) (a : ℤ) → any_crowded others others ≡ false
    → lying_in others a 1 ≤ 1
no_two others a n = by (nat_lt 1 (lying_in others a 1)) refl
  where
    by : (t : Bool) → nat_lt 1 (lying_in others a 1) ≡ t → lying_in others a 1 ≤ 1
    by false e = no_less 1 (lying_in others a 1) e
    by true e =
        let two = less_from 1 (lying_in others a 1) e in
        let some : 1 ≤ widest others = omega (arith, two, lying_few others a 1) in
        absurd (never (sym n ∙ crowd_seen others 1 a (omega arith) some two))
