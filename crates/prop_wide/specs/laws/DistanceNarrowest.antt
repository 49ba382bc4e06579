-- Distances from zero are answered as narrowly as can be.
use Rattle.std.specs.Prelude.{◌≡◌, ℤ, pos, neg_ℤ, ◌≤ℤ◌, ◌<ℤ◌, ◌⊎◌}
use Rattle.std.specs.Int.{int_max}
use Rattle.std.proofs.Common.{arith, refl, inl, inr}
use Rattle.std.proofs.lemmas.Int.{ints, clamps, by_lt_z}
use Rattle.prop_intervals.specs.laws.Relations.{IsInRange}
use Rattle.prop_lattice.specs.Points.{Number, Holds}
use Rattle.prop_lattice.specs.declared.span.TheConstants.{B}
use Rattle.prop_lattice.specs.declared.info.Info.{Info}
use Rattle.prop_wide.specs.Distances.{IsDistance, abs_of, least_distance}
use Rattle.prop_wide.specs.Distances.{greatest_distance}
use Rattle.prop_wide.specs.Ends.{low_of, high_of, part_of}
use Rattle.prop_wide.specs.Narrowest.{IsNumber, BelongsToOne, BelongsToTwo}
use Rattle.prop_wide.specs.Narrowest.{AbsIsNarrowest, AbsBackIsNarrowest}
use Rattle.prop_wide.specs.laws.DistanceLaws.{abs_sound}
use Rattle.prop_wide.specs.laws.EndLaws.{IsBetween, ends_ordered, held_between}
use Rattle.prop_wide.specs.laws.EndLaws.{part_holds, part_kind}
use Rattle.prop_wide.specs.laws.NarrowestLaws.{low_left, high_left, between_left, span_from_from}
use Rattle.prop_wide.specs.laws.NarrowestLaws.{reached, exact, same, hull_narrowest}
use Rattle.prop_wide.specs.laws.NarrowestLaws.{narrowed_narrowest, part_from}

-- ---- distances

-- the ends of how far it is are those of numbers that are left
at_low : (l h : ℤ) → pos 0 ≤ℤ l → l ≤ℤ h
    → int_max (int_max l (neg_ℤ h)) (pos 0) ≡ int_max l (neg_ℤ l)
at_low l h p q = omega (arith, ints, clamps)

at_high : (l h : ℤ) → h <ℤ pos 0 → l ≤ℤ h
    → int_max (int_max l (neg_ℤ h)) (pos 0) ≡ int_max h (neg_ℤ h)
at_high l h p q = omega (arith, ints, clamps)

at_zero : (l h : ℤ) → l <ℤ pos 0 → pos 0 ≤ℤ h
    → int_max (int_max l (neg_ℤ h)) (pos 0) ≡ int_max (pos 0) (neg_ℤ (pos 0))
at_zero l h p q = omega (arith, ints, clamps)

pub nearest : (x : Info) → IsNumber x → BelongsToOne IsDistance x (least_distance x)
nearest x n = by_lt_z (low_of x) (pos 0) (λ l. by_lt_z (high_of x) (pos 0)
    (λ k. (high_of x, high_left x n, at_high (low_of x) (high_of x) k (ends_ordered x).ordered))
    (λ k. (
      pos 0,
      between_left x (pos 0) n (omega (arith, ints, l)) k,
      at_zero (low_of x) (high_of x) l k,
    )))
    (λ l. (low_of x, low_left x n, at_low (low_of x) (high_of x) l (ends_ordered x).ordered))

far_high : (l h : ℤ) → neg_ℤ l ≤ℤ h → l ≤ℤ h → int_max h (neg_ℤ l) ≡ int_max h (neg_ℤ h)
far_high l h p q = omega (arith, ints, clamps)

far_low : (l h : ℤ) → h <ℤ neg_ℤ l → l ≤ℤ h → int_max h (neg_ℤ l) ≡ int_max l (neg_ℤ l)
far_low l h p q = omega (arith, ints, clamps)

pub furthest : (x : Info) → IsNumber x → BelongsToOne IsDistance x (greatest_distance x)
furthest x n = by_lt_z (high_of x) (neg_ℤ (low_of x))
    (λ l. (low_of x, low_left x n, far_low (low_of x) (high_of x) l (ends_ordered x).ordered))
    (λ l. (high_of x, high_left x n, far_high (low_of x) (high_of x) l (ends_ordered x).ordered))

-- they are numbers in range, not below zero and in order
pub record AreDistances (near far : ℤ) : Type 0 where
  pub least : pos 0 ≤ℤ near
  pub ordered : near ≤ℤ far
  pub greatest : far ≤ℤ B

pub distances_of : (x : Info) → AreDistances (least_distance x) (greatest_distance x)
distances_of x =
    let o = ends_ordered x in by (low_of x) (high_of x) o.above o.ordered o.below
  where
    by : (l h : ℤ) → neg_ℤ B ≤ℤ l → l ≤ℤ h → h ≤ℤ B
        → AreDistances (int_max (int_max l (neg_ℤ h)) (pos 0)) (int_max h (neg_ℤ l))
    by l h p q r = record {
      least = omega (arith, ints, clamps);
      ordered = omega (arith, ints, clamps);
      greatest = omega (arith, ints, clamps);
    }

pub abs_narrowest : AbsIsNarrowest
abs_narrowest x n =
    let d = distances_of x in
    reached (BelongsToOne IsDistance x) (least_distance x) (greatest_distance x) (abs_of x)
    (λ w i b. abs_sound x b.0 w b.1.held b.1.in_range i b.2) (λ v i h. span_from_from _ _ v h)
    (in_range (least_distance x) (greatest_distance x) d).0 (nearest x n)
    (in_range (least_distance x) (greatest_distance x) d).1 (furthest x n)
  where
    in_range : (l h : ℤ) → AreDistances l h → IsInRange l × IsInRange h
    in_range l h d = (
      (omega (arith, ints, d.least), omega (arith, ints, d.ordered, d.greatest)),
      (omega (arith, ints, d.least, d.ordered), d.greatest),
    )

-- ---- and back

pub abs_back_narrowest : AbsBackIsNarrowest
abs_back_narrowest y x n m =
    narrowed_narrowest P _ (same (λ v. Below v ⊎ Above v) P _ to from
    (hull_narrowest Below Above (part_of x (neg_ℤ (high_of y)) (neg_ℤ near))
    (part_of x near (high_of y)) (part_kind 0 x (neg_ℤ (high_of y)) (neg_ℤ near))
    (part_kind 0 x near (high_of y))
    (exact Below _ below_holds below_from) (exact Above _ above_holds above_from)))
  where
    near : ℤ
    near = int_max (low_of y) (pos 0)

    P : ℤ → Type 0
    P = BelongsToTwo (λ y x v. (v ≡ x) × IsDistance x y) y x

    Below : ℤ → Type 0
    Below v = P v × (v ≤ℤ pos 0)

    Above : ℤ → Type 0
    Above v = P v × (pos 0 ≤ℤ v)

    to : (v : ℤ) → IsInRange v → Below v ⊎ Above v → P v
    to v i (inl b) = b.0
    to v i (inr b) = b.0

    from : (v : ℤ) → IsInRange v → P v → Below v ⊎ Above v
    from v i p = by_lt_z v (pos 0) (λ l. inl (p, omega (arith, ints))) (λ l. inr (p, l))

    -- the bounds of the distance
    bounds : (v : ℤ) → P v → (int_max (low_of y) (pos 0) ≤ℤ int_max v (neg_ℤ v))
        × (int_max v (neg_ℤ v) ≤ℤ high_of y)
    bounds v p =
        let a = held_between y p.0 p.2.held p.2.in_range in
        by (low_of y) (high_of y) p.0 p.1 a.from a.to p.4.0 p.4.1
      where
        by : (l h w u : ℤ) → l ≤ℤ w → w ≤ℤ h → v ≡ u → w ≡ int_max u (neg_ℤ u)
            → (int_max l (pos 0) ≤ℤ int_max v (neg_ℤ v)) × (int_max v (neg_ℤ v) ≤ℤ h)
        by l h w u q r e f = (omega (arith, ints, clamps, e, f), omega (arith, ints, clamps, e, f))

    is_in : (v : ℤ) → P v → IsBetween x v
    is_in v p = rw p.4.0 (held_between x p.1 p.3.held p.3.in_range)

    below_holds : (v : ℤ) → IsInRange v → Below v
        → Holds (part_of x (neg_ℤ (high_of y)) (neg_ℤ near)) (Number v)
    below_holds v i b =
        let d = bounds v b.0 in
        part_holds x _ _ v (is_in v b.0) (far (high_of y) b.1 d.1) (nigh near b.1 d.0)
      where
        far : (h : ℤ) → v ≤ℤ pos 0 → int_max v (neg_ℤ v) ≤ℤ h → neg_ℤ h ≤ℤ v
        far h p q = omega (arith, ints, clamps)

        nigh : (l : ℤ) → v ≤ℤ pos 0 → l ≤ℤ int_max v (neg_ℤ v) → v ≤ℤ neg_ℤ l
        nigh l p q = omega (arith, ints, clamps)

    above_holds : (v : ℤ) → IsInRange v → Above v → Holds (part_of x near (high_of y)) (Number v)
    above_holds v i b =
        let d = bounds v b.0 in
        part_holds x _ _ v (is_in v b.0) (nigh near b.1 d.0) (far (high_of y) b.1 d.1)
      where
        far : (h : ℤ) → pos 0 ≤ℤ v → int_max v (neg_ℤ v) ≤ℤ h → v ≤ℤ h
        far h p q = omega (arith, ints, clamps)

        nigh : (l : ℤ) → pos 0 ≤ℤ v → l ≤ℤ int_max v (neg_ℤ v) → l ≤ℤ v
        nigh l p q = omega (arith, ints, clamps)

    near_parts : (l v : ℤ) → int_max l (pos 0) ≤ℤ v → (l ≤ℤ v) × (pos 0 ≤ℤ v)
    near_parts l v p = (omega (arith, ints, clamps), omega (arith, ints, clamps))

    below_from : (v : ℤ) → IsInRange v
        → Holds (part_of x (neg_ℤ (high_of y)) (neg_ℤ near)) (Number v) → Below v
    below_from v i h =
        let f = part_from x (neg_ℤ (high_of y)) (neg_ℤ near) v h in
        let d = near_parts (low_of y) (neg_ℤ v) (turn near v f.1.1) in (
          (
            neg_ℤ v,
            v,
            between_left y (neg_ℤ v) n d.0 (back (high_of y) v f.1.0),
            between_left x v m f.0.0 f.0.1,
            (refl, distance v d.1),
          ),
          omega (arith, ints, d.1),
        )
      where
        turn : (a v : ℤ) → v ≤ℤ neg_ℤ a → a ≤ℤ neg_ℤ v
        turn a v p = omega (arith, ints)

        back : (a v : ℤ) → neg_ℤ a ≤ℤ v → neg_ℤ v ≤ℤ a
        back a v p = omega (arith, ints)

        distance : (v : ℤ) → pos 0 ≤ℤ neg_ℤ v → neg_ℤ v ≡ int_max v (neg_ℤ v)
        distance v p = omega (arith, ints, clamps)

    above_from : (v : ℤ) → IsInRange v → Holds (part_of x near (high_of y)) (Number v) → Above v
    above_from v i h =
        let f = part_from x near (high_of y) v h in
        let d = near_parts (low_of y) v f.1.0 in (
          (
            v,
            v,
            between_left y v n d.0 f.1.1,
            between_left x v m f.0.0 f.0.1,
            (refl, distance v d.1),
          ),
          d.1,
        )
      where
        distance : (v : ℤ) → pos 0 ≤ℤ v → v ≡ int_max v (neg_ℤ v)
        distance v p = omega (arith, ints, clamps)
