-- What is known of rounded square roots.
use Rattle.std.specs.Prelude.{◌≡◌, ℕ, ◌+◌, ◌*◌, ◌<◌, ◌≤◌, ℤ, pos, neg_ℤ, ◌*ℤ◌, ◌≤ℤ◌, nat_le, Bool}
use Rattle.std.specs.Prelude.{true, false, if◌then◌else◌, unsigned_abs}
use Rattle.std.specs.Prelude.{◌&&◌, ◌+ℤ◌, ◌-ℤ◌, ◌<ℤ◌}
use Rattle.std.specs.List.{position_or_len, range_with_len}
use Rattle.std.proofs.lemmas.List.FromFn.{get_or-range_with_len, length-range_with_len}
use Rattle.std.proofs.lemmas.List.Sums.{passes_at_first, fails_before_first}
use Rattle.std.proofs.lemmas.Int.{by_lt_z}
use Rattle.prop_lattice.specs.Ends.{AreEnds}
use Rattle.prop_lattice.specs.laws.OrderLaws.{info_laws}
use Rattle.std.proofs.Common.{sym, ap, ◌∙◌, get_or}
use Rattle.prop_intervals.specs.inner.Roots.{roots_at_distance}
use Rattle.prop_intervals.specs.Roots.{roots_between}
use Rattle.std.proofs.Common.{arith, refl, inl, inr, zero, suc, negsuc}
use Rattle.std.proofs.lemmas.Int.{ints}
use Rattle.std.proofs.lemmas.Nat.{mul-le}
use Rattle.std.proofs.lemmas.Bool.{cases_lt}
use Rattle.std.proofs.lemmas.Bool.Decides.{nat_tests}
use Rattle.std.specs.Prelude.{int_le, int_lt, Option, Some, None}
use Rattle.std.specs.Int.{int_max, int_min}
use Rattle.std.proofs.lemmas.Int.{clamps}
use Rattle.prop_lattice.specs.declared.span.TheConstants.{B}
use Rattle.prop_lattice.specs.Ends.{span_from}
use Rattle.prop_lattice.specs.laws.OrderLaws.{to_top}
use Rattle.prop_lattice.specs.declared.span.Span as spans
use Rattle.prop_lattice.specs.declared.info.Info.TheVariants.{Span, Contradiction}
use Rattle.prop_lattice.specs.Order.{Below}
use Rattle.prop_lattice.specs.Points.{Number, Holds}
use Rattle.prop_lattice.specs.Rank.{IsOf}
use Rattle.prop_lattice.specs.declared.info.Kind.TheVariants as kinds
use Rattle.prop_intervals.specs.laws.ClipLaws.{span_from_of_span}
use Rattle.prop_intervals.specs.Relations.{IsSquare}
use Rattle.prop_intervals.specs.Narrowest.{IsNarrowest}
use Rattle.prop_intervals.specs.laws.NarrowestLaws.{narrowest_below, narrowest_same, span_narrowest}
use Rattle.prop_intervals.specs.laws.NarrowestLaws.{none_narrowest}
use Rattle.prop_intervals.specs.Roots.{first_of, last_of}
use Rattle.prop_intervals.specs.inner.Roots.{root_floor, least_root, greatest_root}
use Rattle.prop_intervals.specs.Roots.{IsRoot, root_of}
use Rattle.prop_intervals.specs.inner.Roots.{span_at_distance}

-- its square and the next one lie on both sides of n, and it is no larger than n
pub root_floor-parts : (n : ℕ)
    → (root_floor n * root_floor n ≤ n) × (n < suc (root_floor n) * suc (root_floor n))
    × (root_floor n ≤ n)
unfolding root_floor
root_floor-parts zero = (omega arith, omega arith, omega arith)
root_floor-parts (suc n) = by (nat_le (suc (root_floor n) * suc (root_floor n)) (suc n)) refl
    (root_floor-parts n)
  where
    by : (t : Bool) → nat_le (suc (root_floor n) * suc (root_floor n)) (suc n) ≡ t
        → (root_floor n * root_floor n ≤ n) × (n < suc (root_floor n) * suc (root_floor n))
        × (root_floor n ≤ n) →
        ((if t then suc (root_floor n) else root_floor n)
        * (if t then suc (root_floor n) else root_floor n) ≤ suc n)
        × (suc n < suc (if t then suc (root_floor n) else root_floor n) * suc
        (if t then suc (root_floor n) else root_floor n))
        × ((if t then suc (root_floor n) else root_floor n) ≤ suc n)
    by true e h = (grind (arith, nat_tests), omega arith, omega arith)
    by false e h = (omega arith, grind (arith, nat_tests), omega arith)

pub root_floor-least : (n v : ℕ) → v * v ≤ n → v ≤ root_floor n
root_floor-least n v h = elim (cases_lt (root_floor n) v) [
  | inl l ↦ absurd (omega (
    arith,
    (root_floor-parts n).1,
    mul-le (suc (root_floor n)) (suc (root_floor n)) v v l l,
  ))
  | inr g ↦ g
]

-- the number with these squares on both sides is the root
pub root_floor-is : (n r : ℕ) → r * r ≤ n → n < (r + 1) * (r + 1) → r ≡ root_floor n
root_floor-is n r h k = elim (cases_lt r (root_floor n)) [
  | inl l ↦ absurd (omega (
    arith,
    (root_floor-parts n).0,
    mul-le (suc r) (suc r) (root_floor n) (root_floor n) l l,
  ))
  | inr g ↦ omega (arith, root_floor-least n r h)
]

pub square_is : (v : ℤ) → (v *ℤ v) ≡ pos (unsigned_abs v * unsigned_abs v)
square_is (pos n) = omega (arith, ints)
square_is (negsuc n) = omega (arith, ints)

-- a square is at least m exactly from the least root on
pub least_root-from : (m v : ℤ) → m ≤ℤ (v *ℤ v) → least_root m ≤ unsigned_abs v
unfolding least_root
least_root-from (pos zero) v h = omega arith
least_root-from (pos (suc n)) v h = over (rw (square_is v) at h)
  where
    over : pos (suc n) ≤ℤ pos (unsigned_abs v * unsigned_abs v)
        → suc (root_floor n) ≤ unsigned_abs v
    over g = elim (cases_lt (root_floor n) (unsigned_abs v)) [
      | inl l ↦ omega arith
      | inr k ↦ absurd (omega (
        arith,
        ints,
        (root_floor-parts n).0,
        mul-le (unsigned_abs v) (unsigned_abs v) (root_floor n) (root_floor n) k k,
      ))
    ]
least_root-from (negsuc n) v h = omega arith

pub least_root-to : (m v : ℤ) → least_root m ≤ unsigned_abs v → m ≤ℤ (v *ℤ v)
unfolding least_root
least_root-to (pos zero) v h = rw (square_is v) (omega (arith, ints))
least_root-to (pos (suc n)) v h =
    rw (square_is v) (omega (
      arith,
      ints,
      (root_floor-parts n).1,
      mul-le (suc (root_floor n)) (suc (root_floor n)) (unsigned_abs v) (unsigned_abs v) h h,
    ))
least_root-to (negsuc n) v h = rw (square_is v) (omega (arith, ints))

-- a square is at most m, not below 0, exactly up to the greatest root
pub greatest_root-from : (m v : ℤ) → (v *ℤ v) ≤ℤ m → unsigned_abs v ≤ greatest_root m
unfolding greatest_root
greatest_root-from (pos n) v h = under (rw (square_is v) at h)
  where
    under : pos (unsigned_abs v * unsigned_abs v) ≤ℤ pos n → unsigned_abs v ≤ root_floor n
    under g = root_floor-least n (unsigned_abs v) (omega (arith, ints))
greatest_root-from (negsuc n) v h = absurd (below (rw (square_is v) at h))
  where
    below : pos (unsigned_abs v * unsigned_abs v) ≤ℤ negsuc n → ⊥
    below g = omega (arith, ints)

pub greatest_root-to : (m v : ℤ) → pos 0 ≤ℤ m → unsigned_abs v ≤ greatest_root m → (v *ℤ v) ≤ℤ m
unfolding greatest_root
greatest_root-to (pos n) v p h =
    rw (square_is v) (omega (
      arith,
      ints,
      (root_floor-parts n).0,
      mul-le (unsigned_abs v) (unsigned_abs v) (root_floor n) (root_floor n) h h,
    ))
greatest_root-to (negsuc n) v p h = absurd (omega (arith, ints))

-- ---- spans of roots

-- the numbers from lo to hi at a distance from 0 of l to g
abbrev pub IsAtDistance : ℕ → ℕ → ℤ → ℤ → ℤ → Type 0
IsAtDistance l g lo hi v = (lo ≤ℤ v) × (v ≤ℤ hi) × (l ≤ unsigned_abs v) × (unsigned_abs v ≤ g)

pub span_at_distance-narrowest : (l g : ℕ) (lo hi : ℤ) → neg_ℤ B ≤ℤ lo → hi ≤ℤ B
    → IsNarrowest (IsAtDistance l g lo hi) (span_at_distance (pos l) (pos g) lo hi)
span_at_distance-narrowest l g lo hi above below =
    by (int_le (int_max lo (neg_ℤ (pos g))) (int_min hi (neg_ℤ (pos l)))) refl
    (int_le (int_max lo (pos l)) (int_min hi (pos g))) refl
  where
    by : (s : Bool) → int_le (int_max lo (neg_ℤ (pos g))) (int_min hi (neg_ℤ (pos l))) ≡ s
        → (t : Bool) → int_le (int_max lo (pos l)) (int_min hi (pos g)) ≡ t →
        IsNarrowest (IsAtDistance l g lo hi)
        (span_from (if s then int_max lo (neg_ℤ (pos g)) else int_max lo (pos l))
        (if t then int_min hi (pos g) else int_min hi (neg_ℤ (pos l))))
    by true e true f = span_narrowest (IsAtDistance l g lo hi) (int_max lo (neg_ℤ (pos g)))
        (int_min hi (pos g)) (omega (arith, ints, clamps)) (omega (arith, ints, clamps)) (
          omega (arith, ints, clamps),
          omega (arith, ints, clamps),
          omega (arith, ints, clamps),
          omega (arith, ints, clamps),
        ) (
          omega (arith, ints, clamps),
          omega (arith, ints, clamps),
          omega (arith, ints, clamps),
          omega (arith, ints, clamps),
        )
        (λ v p. (omega (arith, ints, clamps), omega (arith, ints, clamps)))
    by true e false f = span_narrowest (IsAtDistance l g lo hi) (int_max lo (neg_ℤ (pos g)))
        (int_min hi (neg_ℤ (pos l))) (omega (arith, ints, clamps)) (omega (arith, ints, clamps)) (
          omega (arith, ints, clamps),
          omega (arith, ints, clamps),
          omega (arith, ints, clamps),
          omega (arith, ints, clamps),
        ) (
          omega (arith, ints, clamps),
          omega (arith, ints, clamps),
          omega (arith, ints, clamps),
          omega (arith, ints, clamps),
        )
        (λ v p. (omega (arith, ints, clamps), omega (arith, ints, clamps)))
    by false e true f = span_narrowest (IsAtDistance l g lo hi) (int_max lo (pos l))
        (int_min hi (pos g)) (omega (arith, ints, clamps)) (omega (arith, ints, clamps)) (
          omega (arith, ints, clamps),
          omega (arith, ints, clamps),
          omega (arith, ints, clamps),
          omega (arith, ints, clamps),
        ) (
          omega (arith, ints, clamps),
          omega (arith, ints, clamps),
          omega (arith, ints, clamps),
          omega (arith, ints, clamps),
        )
        (λ v p. (omega (arith, ints, clamps), omega (arith, ints, clamps)))
    by false e false f = none_narrowest (IsAtDistance l g lo hi) (int_max lo (pos l))
        (int_min hi (neg_ℤ (pos l))) (λ h. omega (arith, ints, clamps))
        (λ v p. omega (arith, ints, clamps))

pub first_in : (x : Option spans.Span) → neg_ℤ B ≤ℤ first_of x
first_in None = omega (arith, ints)
first_in (Some x) = x.above

pub last_in : (x : Option spans.Span) → last_of x ≤ℤ B
last_in None = omega (arith, ints)
last_in (Some x) = x.below

pub roots_at_distance-narrowest : (y : spans.Span) (x : Option spans.Span)
    → IsNarrowest (IsRoot y x) (roots_at_distance y x)
roots_at_distance-narrowest y x = by (int_lt y.hi (pos 0)) refl
  where
    by : (t : Bool) → int_lt y.hi (pos 0) ≡ t
        → IsNarrowest (IsRoot y x) (if t then Contradiction else span_at_distance
        (pos (least_root y.lo)) (pos (greatest_root y.hi)) (first_of x) (last_of x))
    by true e = record { holds = λ v r. below v r (square_is v); highest = λ s h. to_top s }
      where
        below : (v : ℤ) → IsRoot y x v → (v *ℤ v) ≡ pos (unsigned_abs v * unsigned_abs v) → ⊥
        below v r f = under (v *ℤ v) (unsigned_abs v * unsigned_abs v) r.square_to f
          where
            under : (s : ℤ) (n : ℕ) → s ≤ℤ y.hi → s ≡ pos n → ⊥
            under s n h g = omega (arith, ints)
    by false e = narrowest_same (IsAtDistance (least_root y.lo) (greatest_root y.hi) (first_of x)
        (last_of x)) (IsRoot y x) _ (span_at_distance-narrowest (least_root y.lo)
        (greatest_root y.hi) (first_of x) (last_of x) (first_in x) (last_in x))
        (λ v r. (
          r.from,
          r.to,
          least_root-from y.lo v r.square_from,
          greatest_root-from y.hi v r.square_to,
        ))
        (λ v d. record {
          from = d.0;
          to = d.1;
          square_from = least_root-to y.lo v d.2;
          square_to = greatest_root-to y.hi v (omega (arith, ints)) d.3;
        })

-- ---- the first and the last number whose square is in a span

within : (a b s : ℤ) → (int_le a s && int_le s b) ≡ true → (a ≤ℤ s) × (s ≤ℤ b)
within a b s e = by (int_le a s) refl (int_le s b) refl e
  where
    by : (t : Bool) → int_le a s ≡ t → (u : Bool) → int_le s b ≡ u → (t && u) ≡ true
        → (a ≤ℤ s) × (s ≤ℤ b)
    by true f true g e = (omega (arith, ints), omega (arith, ints))
    by true f false g e = cc
    by false f u g e = cc

is_within : (a b s : ℤ) → a ≤ℤ s → s ≤ℤ b → (int_le a s && int_le s b) ≡ true
is_within a b s p q = by (int_le a s) refl (int_le s b) refl
  where
    by : (t : Bool) → int_le a s ≡ t → (u : Bool) → int_le s b ≡ u → (t && u) ≡ true
    by true f true g = refl
    by true f false g = absurd (omega (arith, ints))
    by false f u g = absurd (omega (arith, ints))

-- the first number below n that passes
first_below : (p : ℕ → Bool) (n : ℕ)
    → (position_or_len p (range_with_len 0 n) < n
    → p (position_or_len p (range_with_len 0 n)) ≡ true)
    × ((i : ℕ) → i < n → i < position_or_len p (range_with_len 0 n) → p i ≡ false)
first_below p n = (
  λ l. ap p (sym (at (position_or_len p (range_with_len 0 n)) l))
      ∙ passes_at_first p (range_with_len 0 n) 0 (rw (length-range_with_len 0 n) l),
  λ i l k. ap p (sym (at i l)) ∙ fails_before_first p (range_with_len 0 n) i 0 k,
)
  where
    at : (i : ℕ) → i < n → get_or (range_with_len 0 n) i 0 ≡ i
    at i l = omega (arith, get_or-range_with_len 0 n i 0 l)

never : true ≡ false → ⊥
never e = cc

module _ (y : spans.Span) (lo hi : ℤ) where
  abbrev is_root : ℤ → Bool
  is_root v = int_le y.lo (v *ℤ v) && int_le (v *ℤ v) y.hi

  abbrev steps : ℕ
  steps = unsigned_abs (hi -ℤ lo) + 1

  abbrev up : ℕ
  up = position_or_len (λ n. is_root (lo +ℤ pos n)) (range_with_len 0 steps)

  abbrev down : ℕ
  down = position_or_len (λ n. is_root (hi -ℤ pos n)) (range_with_len 0 steps)

  abbrev IsRootHere : ℤ → Type 0
  IsRootHere v = (lo ≤ℤ v) × (v ≤ℤ hi) × (y.lo ≤ℤ (v *ℤ v)) × ((v *ℤ v) ≤ℤ y.hi)

  -- no root is met before the first, on either way
  before_up : (v : ℤ) → IsRootHere v → (n : ℕ) → v ≡ lo +ℤ pos n → n < steps → n < up → ⊥
  before_up v r n e l k =
      never (sym (is_within y.lo y.hi (v *ℤ v) r.2 r.3) ∙ ap is_root e
      ∙ (first_below (λ n. is_root (lo +ℤ pos n)) steps).1 n l k)

  before_down : (v : ℤ) → IsRootHere v → (n : ℕ) → v ≡ hi -ℤ pos n → n < steps → n < down → ⊥
  before_down v r n e l k =
      never (sym (is_within y.lo y.hi (v *ℤ v) r.2 r.3) ∙ ap is_root e
      ∙ (first_below (λ n. is_root (hi -ℤ pos n)) steps).1 n l k)

  from_up : (v : ℤ) → IsRootHere v → (lo +ℤ pos up) ≤ℤ v
  from_up v r = by up (unsigned_abs (v -ℤ lo)) (before_up v r)
    where
      by : (u n : ℕ) → ((n : ℕ) → v ≡ lo +ℤ pos n → n < steps → n < u → ⊥) → (lo +ℤ pos u) ≤ℤ v
      by u n h = by_lt_z v (lo +ℤ pos u)
          (λ l. absurd (h (unsigned_abs (v -ℤ lo)) (omega (arith, ints, r.0))
          (omega (arith, ints, r.0, r.1)) (omega (arith, ints, r.0)))) (λ l. l)

  to_down : (v : ℤ) → IsRootHere v → v ≤ℤ (hi -ℤ pos down)
  to_down v r = by down (before_down v r)
    where
      by : (u : ℕ) → ((n : ℕ) → v ≡ hi -ℤ pos n → n < steps → n < u → ⊥) → v ≤ℤ (hi -ℤ pos u)
      by u h = by_lt_z (hi -ℤ pos u) v
          (λ l. absurd (h (unsigned_abs (hi -ℤ v)) (omega (arith, ints, r.1))
          (omega (arith, ints, r.0, r.1)) (omega (arith, ints, r.1)))) (λ l. l)

  at_up : lo ≤ℤ hi → up < steps → IsRootHere (lo +ℤ pos up)
  at_up o l =
      let in_y = within y.lo y.hi _ ((first_below (λ n. is_root (lo +ℤ pos n)) steps).0 l) in
      (omega (arith, ints), by up l, in_y.0, in_y.1)
    where
      by : (u : ℕ) → u < steps → (lo +ℤ pos u) ≤ℤ hi
      by u l = omega (arith, ints)

  at_down : lo ≤ℤ hi → down < steps → IsRootHere (hi -ℤ pos down)
  at_down o l =
      let in_y = within y.lo y.hi _ ((first_below (λ n. is_root (hi -ℤ pos n)) steps).0 l) in
      (by down l, omega (arith, ints), in_y.0, in_y.1)
    where
      by : (u : ℕ) → u < steps → lo ≤ℤ (hi -ℤ pos u)
      by u l = omega (arith, ints)

  apart : (a b : ℕ) → lo ≤ℤ hi → steps ≤ a → ¬ (AreEnds (lo +ℤ pos a) (hi -ℤ pos b))
  apart a b o l e = omega (arith, ints, e.1)

  turned : (a b : ℕ) → hi <ℤ lo → ¬ (AreEnds (lo +ℤ pos a) (hi -ℤ pos b))
  turned a b o e = omega (arith, ints, e.1)

  apart_down : (a b : ℕ) → lo ≤ℤ hi → steps ≤ b → (v : ℤ) → lo ≤ℤ v → v ≤ℤ (hi -ℤ pos b) → ⊥
  apart_down a b o l v p q = omega (arith, ints)

  pub roots_between-narrowest : neg_ℤ B ≤ℤ lo → hi ≤ℤ B
      → IsNarrowest IsRootHere (roots_between y lo hi)
  unfolding roots_between
  roots_between-narrowest above below =
      by_lt_z hi lo
      (λ l. none_narrowest IsRootHere (lo +ℤ pos up) (hi -ℤ pos down) (turned up down l)
      (λ v r. omega (arith, ints, l, r.0, r.1)))
      (λ o. elim (cases_lt up steps) [
        | inr g ↦ none_narrowest IsRootHere (lo +ℤ pos up) (hi -ℤ pos down) (apart up down o g)
            (λ v r. past up g v (from_up v r) r.1)
        | inl l ↦ elim (cases_lt down steps) [
          | inr g ↦ absurd (apart_down up down o g _ (at_up o l).0
              (to_down (lo +ℤ pos up) (at_up o l)))
          | inl k ↦ span_narrowest IsRootHere (lo +ℤ pos up) (hi -ℤ pos down)
              (high up) (low down) (at_up o l) (at_down o k)
              (λ v r. (from_up v r, to_down v r))
        ]
      ])
    where
      past : (a : ℕ) → steps ≤ a → (v : ℤ) → (lo +ℤ pos a) ≤ℤ v → v ≤ℤ hi → ⊥
      past a g v p q = omega (arith, ints)

      high : (a : ℕ) → neg_ℤ B ≤ℤ (lo +ℤ pos a)
      high a = omega (arith, ints)

      low : (b : ℕ) → (hi -ℤ pos b) ≤ℤ B
      low b = omega (arith, ints)

pub root_of-narrowest : (y : spans.Span) (x : Option spans.Span)
    → IsNarrowest (IsRoot y x) (root_of y x)
root_of-narrowest y x =
    narrowest_same (IsRootHere y (first_of x) (last_of x)) (IsRoot y x) _
    (roots_between-narrowest y (first_of x) (last_of x) (first_in x) (last_in x))
    (λ v r. (r.from, r.to, r.square_from, r.square_to))
    (λ v r. record { from = r.0; to = r.1; square_from = r.2; square_to = r.3 })

-- the narrowest is one
pub root_of_is : (y : spans.Span) (x : Option spans.Span) → roots_at_distance y x ≡ root_of y x
root_of_is y x = info_laws.antisymmetric (roots_at_distance y x) (root_of y x)
    (narrowest_below (IsRoot y x) (IsRoot y x) _ _ (roots_at_distance-narrowest y x)
    (root_of-narrowest y x) (λ v r. r))
    (narrowest_below (IsRoot y x) (IsRoot y x) _ _ (root_of-narrowest y x)
    (roots_at_distance-narrowest y x) (λ v r. r))

-- ---- the laws of roots

pub root_monotone : (y y' : spans.Span) (x x' : Option spans.Span) → Below (Span y) (Span y')
    → first_of x ≤ℤ first_of x' → last_of x' ≤ℤ last_of x → Below (root_of y x) (root_of y' x')
root_monotone y y' x x' p q r =
    narrowest_below (IsRoot y x) (IsRoot y' x') (root_of y x) (root_of y' x')
    (root_of-narrowest y x) (root_of-narrowest y' x') wider
  where
    through : (a b c : ℤ) → a ≤ℤ b → b ≤ℤ c → a ≤ℤ c
    through a b c h k = omega (arith, ints)

    wider : (v : ℤ) → IsRoot y' x' v → IsRoot y x v
    wider v h = record {
      from = through (first_of x) (first_of x') v q h.from;
      to = through v (last_of x') (last_of x) h.to r;
      square_from = through y.lo y'.lo (v *ℤ v) p.0 h.square_from;
      square_to = through (v *ℤ v) y'.hi y.hi h.square_to p.1;
    }

pub root_kind : (size : ℕ) (y : spans.Span) (x : Option spans.Span)
    → IsOf kinds.Span size (root_of y x)
unfolding roots_between
root_kind size y x = span_from_of_span size _ _

pub root_sound : (y : spans.Span) (x : Option spans.Span) (w v : ℤ) → Holds (Span y) (Number w)
    → first_of x ≤ℤ v → v ≤ℤ last_of x → IsSquare v w → Holds (root_of y x) (Number v)
root_sound y x w v h p q e = (root_of-narrowest y x).holds v
    (record { from = p; to = q; square_from = rw (← e) h.0; square_to = rw (← e) h.1 })
