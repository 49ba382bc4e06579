-- What is known of ends.
use Rattle.std.specs.Prelude.{◌≡◌, ◌≢◌, ℕ, ℤ, neg_ℤ, ◌≤ℤ◌, Bool, true, false, int_le, ◌&&◌}
use Rattle.std.specs.Prelude.{if◌then◌else◌}
use Rattle.std.proofs.Common.{arith, refl, rules}
use Rattle.std.specs.Int.{int_max, int_min}
use Rattle.std.proofs.lemmas.Int.{ints, clamps}
use Rattle.prop_intervals.specs.Clip.{clip}
use Rattle.prop_intervals.specs.laws.ClipLaws.{clip_below, clip_of_span, clip_holds}
use Rattle.prop_intervals.specs.laws.Relations.{IsInRange}
use Rattle.prop_lattice.specs.Order.{Below}
use Rattle.prop_lattice.specs.Points.{Number, Holds}
use Rattle.prop_lattice.specs.Rank.{IsOf}
use Rattle.prop_lattice.specs.declared.span.TheConstants.{B}
use Rattle.prop_lattice.specs.declared.info.Info.{Info}
use Rattle.prop_lattice.specs.declared.info.Info.TheVariants.{Nothing, Span, Set, Sym}
use Rattle.prop_lattice.specs.declared.info.Info.TheVariants.{Contradiction}
use Rattle.prop_lattice.specs.declared.info.Kind.TheVariants as kinds
use Rattle.prop_wide.specs.Ends.{low_of, high_of, known, part_of}

-- ---- the ends

-- the ends lie in range, in order
pub record AreOrdered (lo hi : ℤ) : Type 0 where
  pub above : neg_ℤ B ≤ℤ lo
  pub ordered : lo ≤ℤ hi
  pub below : hi ≤ℤ B

pub ends_ordered : (x : Info) → AreOrdered (low_of x) (high_of x)
ends_ordered (Span a) = record { above = a.above; ordered = a.ordered; below = a.below }
ends_ordered Nothing =
    record {
      above = omega (arith, ints);
      ordered = omega (arith, ints);
      below =
          omega (arith, ints);
    }
ends_ordered (Set a) =
    record {
      above = omega (arith, ints);
      ordered = omega (arith, ints);
      below =
          omega (arith, ints);
    }
ends_ordered (Sym a) =
    record {
      above = omega (arith, ints);
      ordered = omega (arith, ints);
      below =
          omega (arith, ints);
    }
ends_ordered Contradiction =
    record {
      above = omega (arith, ints);
      ordered = omega (arith, ints);
      below =
          omega (arith, ints);
    }

-- the ends of the second lie between those of the first
pub record AreWithin (x x' : Info) : Type 0 where
  pub low : low_of x ≤ℤ low_of x'
  pub high : high_of x' ≤ℤ high_of x

-- what knows more has ends that lie within
pub ends_within : (x x' : Info) → Below x x' → x' ≢ Contradiction → AreWithin x x'
ends_within (Span a) (Span b) p n = record { low = p.0; high = p.1 }
ends_within Nothing x' p n =
    record { low = (ends_ordered x').above; high = (ends_ordered x').below }
ends_within (Set a) (Set b) p n = record { low = omega (arith, ints); high = omega (arith, ints) }
ends_within (Sym a) (Sym b) p n = record { low = omega (arith, ints); high = omega (arith, ints) }
ends_within x Contradiction p n = absurd (n refl)
ends_within x x' p n = search rules

-- a number that is left lies between the ends
pub record IsBetween (x : Info) (v : ℤ) : Type 0 where
  pub from : low_of x ≤ℤ v
  pub to : v ≤ℤ high_of x

pub held_between : (x : Info) (v : ℤ) → Holds x (Number v) → IsInRange v → IsBetween x v
held_between (Span a) v h r = record { from = h.0; to = h.1 }
held_between Nothing v h r = record { from = r.0; to = r.1 }
held_between x v h r = search rules

-- ---- parts

pub part_below : (x x' : Info) (lo hi lo' hi' : ℤ) → AreWithin x x' → lo ≤ℤ lo' → hi' ≤ℤ hi
    → Below (part_of x lo hi) (part_of x' lo' hi')
unfolding part_of
part_below x x' lo hi lo' hi' a p q =
    clip_below _ _ _ _ (max_grows (low_of x) (low_of x') lo lo' a.low p)
    (min_grows (high_of x') (high_of x) hi' hi a.high q)
  where
    max_grows : (a b c d : ℤ) → a ≤ℤ b → c ≤ℤ d → int_max a c ≤ℤ int_max b d
    max_grows a b c d p q = omega (arith, ints, clamps)

    min_grows : (a b c d : ℤ) → a ≤ℤ b → c ≤ℤ d → int_min a c ≤ℤ int_min b d
    min_grows a b c d p q = omega (arith, ints, clamps)

pub part_holds : (x : Info) (lo hi v : ℤ) → IsBetween x v → lo ≤ℤ v → v ≤ℤ hi
    → Holds (part_of x lo hi) (Number v)
unfolding part_of
part_holds x lo hi v a p q =
    let o = ends_ordered x in by (low_of x) (high_of x) a.from a.to o.above o.below
  where
    by : (l h : ℤ) → l ≤ℤ v → v ≤ℤ h → neg_ℤ B ≤ℤ l → h ≤ℤ B
        → Holds (clip (int_max l lo) (int_min h hi)) (Number v)
    by l h r s k m = clip_holds _ _ v (omega (arith, ints, clamps, p, r))
        (omega (arith, ints, clamps, q, s)) (omega (arith, ints, k, r)) (omega (arith, ints, m, s))

pub part_kind : (size : ℕ) (x : Info) (lo hi : ℤ) → IsOf kinds.Span size (part_of x lo hi)
unfolding part_of
part_kind size x lo hi = clip_of_span size (int_max (low_of x) lo) (int_min (high_of x) hi)

-- ---- what two ends tell

-- closer ends are not all numbers in range where these aren't
all_wider : (lo hi lo' hi' : ℤ) → lo ≤ℤ lo' → hi' ≤ℤ hi
    → (int_le lo' (neg_ℤ B) && int_le B hi') ≡ true
    → (int_le lo (neg_ℤ B) && int_le B hi) ≡ false → ⊥
all_wider lo hi lo' hi' p q =
    by (int_le lo (neg_ℤ B)) refl (int_le B hi) refl (int_le lo' (neg_ℤ B)) refl (int_le B hi') refl
  where
    by : (s : Bool) → int_le lo (neg_ℤ B) ≡ s → (t : Bool) → int_le B hi ≡ t → (s' : Bool)
        → int_le lo' (neg_ℤ B) ≡ s' → (t' : Bool) → int_le B hi' ≡ t' → (s' && t') ≡ true
        → (s && t) ≡ false → ⊥
    by true f true g s' f' t' g' h k = cc
    by s f t g false f' t' g' h k = cc
    by s f t g true f' false g' h k = cc
    by false f t g true f' true g' h k = omega (arith, ints)
    by true f false g true f' true g' h k = omega (arith, ints)

pub known_below : (lo hi lo' hi' : ℤ) → lo ≤ℤ lo' → hi' ≤ℤ hi
    → Below (known lo hi) (known lo' hi')
unfolding known
known_below lo hi lo' hi' p q =
    by (int_le lo (neg_ℤ B) && int_le B hi) refl (int_le lo' (neg_ℤ B) && int_le B hi') refl
  where
    by : (s : Bool) → (int_le lo (neg_ℤ B) && int_le B hi) ≡ s → (t : Bool)
        → (int_le lo' (neg_ℤ B) && int_le B hi') ≡ t
        → Below (if s then Nothing else clip lo hi) (if t then Nothing else clip lo' hi')
    by true e t f = tt
    by false e true f = absurd (all_wider lo hi lo' hi' p q f e)
    by false e false f = clip_below lo hi lo' hi' p q

pub known_kind : (size : ℕ) (lo hi : ℤ) → IsOf kinds.Span size (known lo hi)
unfolding known
known_kind size lo hi = by (int_le lo (neg_ℤ B) && int_le B hi)
  where
    by : (s : Bool) → IsOf kinds.Span size (if s then Nothing else clip lo hi)
    by true = tt
    by false = clip_of_span size lo hi

pub known_holds : (lo hi v : ℤ) → lo ≤ℤ v → v ≤ℤ hi → IsInRange v → Holds (known lo hi) (Number v)
unfolding known
known_holds lo hi v p q r = by (int_le lo (neg_ℤ B) && int_le B hi)
  where
    by : (s : Bool) → Holds (if s then Nothing else clip lo hi) (Number v)
    by true = tt
    by false = clip_holds lo hi v p q r.0 r.1

-- ---- two orders

clash : false ≡ true → ⊥
clash e = cc

-- both hold
abbrev pub both_le : ℤ → ℤ → ℤ → ℤ → Bool
both_le l p s h = int_le l p && int_le s h

pub both_from : (l p s h : ℤ) → l ≤ℤ p → s ≤ℤ h → both_le l p s h ≡ true
both_from l p s h a b = by (int_le l p) refl (int_le s h) refl
  where
    by : (m : Bool) → int_le l p ≡ m → (n : Bool) → int_le s h ≡ n → (m && n) ≡ true
    by true e true f = refl
    by true e false f = absurd (omega (arith, ints))
    by false e n f = absurd (omega (arith, ints))

pub both_to : (l p s h : ℤ) → both_le l p s h ≡ true → (l ≤ℤ p) × (s ≤ℤ h)
both_to l p s h = by (int_le l p) refl (int_le s h) refl
  where
    by : (m : Bool) → int_le l p ≡ m → (n : Bool) → int_le s h ≡ n → (m && n) ≡ true
        → (l ≤ℤ p) × (s ≤ℤ h)
    by true e true f g = (omega (arith, ints), omega (arith, ints))
    by true e false f g = absurd (clash g)
    by false e n f g = absurd (clash g)
