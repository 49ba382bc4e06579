-- The larger and the smaller of two numbers are answered as narrowly as can be.
use Rattle.std.specs.Prelude.{◌≡◌, ℤ, pos, neg_ℤ, ◌≤ℤ◌, Bool, true, false}
use Rattle.std.specs.Prelude.{int_lt, if◌then◌else◌}
use Rattle.std.specs.Int.{int_max, int_min}
use Rattle.std.proofs.Common.{arith, refl}
use Rattle.std.proofs.lemmas.Int.{ints, clamps}
use Rattle.prop_intervals.specs.laws.Relations.{IsInRange}
use Rattle.prop_lattice.specs.Points.{Number, Holds}
use Rattle.prop_lattice.specs.declared.span.TheConstants.{B}
use Rattle.prop_lattice.specs.declared.info.Info.{Info}
use Rattle.prop_lattice.specs.declared.info.Info.TheVariants.{Contradiction}
use Rattle.prop_wide.specs.Ends.{low_of, high_of, known}
use Rattle.prop_wide.specs.Extremes.{max_of, max_back_of, min_of, min_back_of}
use Rattle.prop_wide.specs.Narrowest.{IsNarrowest, BelongsToTwo}
use Rattle.prop_wide.specs.Narrowest.{MaxIsNarrowest, MaxBackIsNarrowest, MinIsNarrowest}
use Rattle.prop_wide.specs.Narrowest.{MinBackIsNarrowest}
use Rattle.prop_wide.specs.laws.EndLaws.{AreOrdered, ends_ordered}
use Rattle.prop_wide.specs.laws.ExtremeLaws.{max_sound, max_back_sound, min_sound, min_back_sound}
use Rattle.prop_wide.specs.laws.NarrowestLaws.{low_left, high_left, between_left, known_from}
use Rattle.prop_wide.specs.laws.NarrowestLaws.{reached, none}

max_holds : (x y : Info) (w : ℤ) → IsInRange w
    → BelongsToTwo (λ x y z. z ≡ int_max x y) x y w → Holds (max_of x y) (Number w)
max_holds x y w i b = max_sound x y b.0 b.1 w b.2.held b.3.held b.2.in_range b.3.in_range i b.4

max_in : (a b : ℤ) → IsInRange a → IsInRange b → IsInRange (int_max a b)
max_in a b p q = (omega (arith, ints, clamps, p.0, q.0), omega (arith, ints, clamps, p.1, q.1))

pub max_narrowest : MaxIsNarrowest
max_narrowest x y n m =
    let xl = low_left x n in
    let yl = low_left y m in
    let xh = high_left x n in
    let yh = high_left y m in
    reached (BelongsToTwo (λ x y z. z ≡ int_max x y) x y) (int_max (low_of x) (low_of y))
    (int_max (high_of x) (high_of y)) (max_of x y) (max_holds x y) (λ v i h. known_from _ _ v i h)
    (max_in _ _ xl.in_range yl.in_range) (low_of x, low_of y, xl, yl, refl)
    (max_in _ _ xh.in_range yh.in_range) (high_of x, high_of y, xh, yh, refl)

min_holds : (x y : Info) (w : ℤ) → IsInRange w
    → BelongsToTwo (λ x y z. z ≡ int_min x y) x y w → Holds (min_of x y) (Number w)
min_holds x y w i b = min_sound x y b.0 b.1 w b.2.held b.3.held b.2.in_range b.3.in_range i b.4

min_in : (a b : ℤ) → IsInRange a → IsInRange b → IsInRange (int_min a b)
min_in a b p q = (omega (arith, ints, clamps, p.0, q.0), omega (arith, ints, clamps, p.1, q.1))

pub min_narrowest : MinIsNarrowest
min_narrowest x y n m =
    let xl = low_left x n in
    let yl = low_left y m in
    let xh = high_left x n in
    let yh = high_left y m in
    reached (BelongsToTwo (λ x y z. z ≡ int_min x y) x y) (int_min (low_of x) (low_of y))
    (int_min (high_of x) (high_of y)) (min_of x y) (min_holds x y) (λ v i h. known_from _ _ v i h)
    (min_in _ _ xl.in_range yl.in_range) (low_of x, low_of y, xl, yl, refl)
    (min_in _ _ xh.in_range yh.in_range) (high_of x, high_of y, xh, yh, refl)

least_in : IsInRange (neg_ℤ B)
least_in = (omega (arith, ints), omega (arith, ints))

greatest_in : IsInRange B
greatest_in = (omega (arith, ints), omega (arith, ints))

pub max_back_narrowest : MaxBackIsNarrowest
max_back_narrowest z y n m = by (int_lt (high_of z) (low_of y)) refl
    (int_lt (high_of y) (low_of z)) refl holds
  where
    P : ℤ → Type 0
    P = BelongsToTwo (λ z y x. z ≡ int_max x y) z y

    holds : (v : ℤ) → IsInRange v → P v → Holds (max_back_of z y) (Number v)
    holds v i b = max_back_sound z y b.0 b.1 v b.2.held b.3.held b.2.in_range b.3.in_range i b.4

    zo : AreOrdered (low_of z) (high_of z)
    zo = ends_ordered z

    yo : AreOrdered (low_of y) (high_of y)
    yo = ends_ordered y

    larger : (a b : ℤ) → b ≤ℤ a → a ≡ int_max a b
    larger a b p = omega (arith, ints, clamps)

    both : (a b c d e : ℤ) → a ≤ℤ b → c ≤ℤ d → a ≤ℤ d → c ≤ℤ b → (a ≤ℤ int_max a c)
        × (int_max a c ≤ℤ b) × (c ≤ℤ int_max a c) × (int_max a c ≤ℤ d)
    both a b c d e p q r s = (
      omega (arith, ints, clamps),
      omega (arith, ints, clamps),
      omega (arith, ints, clamps),
      omega (arith, ints, clamps),
    )

    by : (s : Bool) → int_lt (high_of z) (low_of y) ≡ s → (t : Bool)
        → int_lt (high_of y) (low_of z) ≡ t
        → ((v : ℤ) → IsInRange v → P v → Holds (if s then Contradiction
        else known (if t then low_of z else neg_ℤ B) (high_of z)) (Number v))
        → IsNarrowest P (if s then Contradiction
        else known (if t then low_of z else neg_ℤ B) (high_of z))
    by true e t f h = none P h
    by false e true f h =
        reached P (low_of z) (high_of z) _ h (λ v i k. known_from _ _ v i k)
        (low_left z n).in_range (
          low_of z,
          low_of y,
          low_left z n,
          low_left y m,
          larger (low_of z) (low_of y) (omega (arith, ints, yo.ordered)),
        )
        (high_left z n).in_range (
          high_of z,
          low_of y,
          high_left z n,
          low_left y m,
          larger (high_of z) (low_of y) (omega (arith, ints)),
        )
    by false e false f h =
        let c = both (low_of z) (high_of z) (low_of y) (high_of y) (pos 0) zo.ordered yo.ordered
        (omega (arith, ints)) (omega (arith, ints)) in
        let cz = between_left z (int_max (low_of z) (low_of y)) n c.0 c.1 in
        let cy = between_left y (int_max (low_of z) (low_of y)) m c.2 c.3 in
        reached P (neg_ℤ B) (high_of z) _ h (λ v i k. known_from _ _ v i k) least_in (
          int_max (low_of z) (low_of y),
          int_max (low_of z) (low_of y),
          cz,
          cy,
          least_max (int_max (low_of z) (low_of y)) cz.in_range.0,
        )
        (high_left z n).in_range (
          high_of z,
          low_of y,
          high_left z n,
          low_left y m,
          larger (high_of z) (low_of y) (omega (arith, ints)),
        )
      where
        least_max : (c : ℤ) → neg_ℤ B ≤ℤ c → c ≡ int_max (neg_ℤ B) c
        least_max c p = omega (arith, ints, clamps)

pub min_back_narrowest : MinBackIsNarrowest
min_back_narrowest z y n m = by (int_lt (high_of y) (low_of z)) refl
    (int_lt (high_of z) (low_of y)) refl holds
  where
    P : ℤ → Type 0
    P = BelongsToTwo (λ z y x. z ≡ int_min x y) z y

    holds : (v : ℤ) → IsInRange v → P v → Holds (min_back_of z y) (Number v)
    holds v i b = min_back_sound z y b.0 b.1 v b.2.held b.3.held b.2.in_range b.3.in_range i b.4

    zo : AreOrdered (low_of z) (high_of z)
    zo = ends_ordered z

    yo : AreOrdered (low_of y) (high_of y)
    yo = ends_ordered y

    smaller : (a b : ℤ) → a ≤ℤ b → a ≡ int_min a b
    smaller a b p = omega (arith, ints, clamps)

    both : (a b c d : ℤ) → a ≤ℤ b → c ≤ℤ d → a ≤ℤ d → c ≤ℤ b → (a ≤ℤ int_max a c)
        × (int_max a c ≤ℤ b) × (c ≤ℤ int_max a c) × (int_max a c ≤ℤ d)
    both a b c d p q r s = (
      omega (arith, ints, clamps),
      omega (arith, ints, clamps),
      omega (arith, ints, clamps),
      omega (arith, ints, clamps),
    )

    by : (s : Bool) → int_lt (high_of y) (low_of z) ≡ s → (t : Bool)
        → int_lt (high_of z) (low_of y) ≡ t
        → ((v : ℤ) → IsInRange v → P v → Holds (if s then Contradiction
        else known (low_of z) (if t then high_of z else B)) (Number v))
        → IsNarrowest P (if s then Contradiction
        else known (low_of z) (if t then high_of z else B))
    by true e t f h = none P h
    by false e true f h =
        reached P (low_of z) (high_of z) _ h (λ v i k. known_from _ _ v i k)
        (low_left z n).in_range (
          low_of z,
          high_of y,
          low_left z n,
          high_left y m,
          smaller (low_of z) (high_of y) (omega (arith, ints)),
        )
        (high_left z n).in_range (
          high_of z,
          high_of y,
          high_left z n,
          high_left y m,
          smaller (high_of z) (high_of y) (omega (arith, ints, yo.ordered)),
        )
    by false e false f h =
        let c = both (low_of z) (high_of z) (low_of y) (high_of y) zo.ordered yo.ordered
        (omega (arith, ints)) (omega (arith, ints)) in
        let cz = between_left z (int_max (low_of z) (low_of y)) n c.0 c.1 in
        let cy = between_left y (int_max (low_of z) (low_of y)) m c.2 c.3 in
        reached P (low_of z) B _ h (λ v i k. known_from _ _ v i k) (low_left z n).in_range (
          low_of z,
          high_of y,
          low_left z n,
          high_left y m,
          smaller (low_of z) (high_of y) (omega (arith, ints)),
        )
        greatest_in (
          int_max (low_of z) (low_of y),
          int_max (low_of z) (low_of y),
          cz,
          cy,
          greatest_min (int_max (low_of z) (low_of y)) cz.in_range.1,
        )
      where
        greatest_min : (c : ℤ) → c ≤ℤ B → c ≡ int_min B c
        greatest_min c p = omega (arith, ints, clamps)
