-- The laws of distances from zero.
use Rattle.std.specs.Prelude.{◌≡◌, ◌≢◌, ℤ, pos, neg_ℤ, ◌≤ℤ◌, unsigned_abs}
use Rattle.std.specs.Int.{int_max}
use Rattle.std.proofs.Common.{arith}
use Rattle.std.proofs.lemmas.Int.{ints, clamps, by_lt_z}
use Rattle.prop_intervals.specs.laws.ClipLaws.{span_from_below, span_from_holds, span_from_of_span}
use Rattle.prop_intervals.specs.laws.Relations.{IsInRange}
use Rattle.prop_lattice.specs.Ends.{span_from}
use Rattle.prop_lattice.specs.Order.{Below}
use Rattle.prop_lattice.specs.Points.{Number, Holds}
use Rattle.prop_lattice.specs.Rank.{IsOf}
use Rattle.prop_lattice.specs.declared.span.TheConstants.{B}
use Rattle.prop_lattice.specs.declared.info.Info.{Info}
use Rattle.prop_lattice.specs.declared.info.Info.TheVariants.{Contradiction}
use Rattle.prop_lattice.specs.declared.info.Kind.TheVariants as kinds
use Rattle.prop_wide.specs.Distances.{IsDistance, abs_of, abs_back_of, at_distance}
use Rattle.prop_wide.specs.Ends.{low_of, high_of, part_of}
use Rattle.prop_wide.specs.laws.EndLaws.{AreWithin, IsBetween}
use Rattle.prop_wide.specs.laws.EndLaws.{part_below, part_holds, part_kind}
use Rattle.prop_wide.specs.laws.EndLaws.{ends_ordered, ends_within, held_between}
use Rattle.prop_wide.specs.laws.HullLaws.{hull_below, hull_kind, hull_holds_first}
use Rattle.prop_wide.specs.laws.HullLaws.{hull_holds_second, narrowed_below, narrowed_kind}
use Rattle.prop_wide.specs.laws.HullLaws.{narrowed_holds}

-- ---- the distance

pub abs_below : (x x' : Info) → Below x x' → x' ≢ Contradiction → Below (abs_of x) (abs_of x')
abs_below x x' p n =
    let a = ends_within x x' p n in
    let o = ends_ordered x in
    by (low_of x) (high_of x) (low_of x') (high_of x') a.low a.high o.above o.below
  where
    by : (l h l' h' : ℤ) → l ≤ℤ l' → h' ≤ℤ h → neg_ℤ B ≤ℤ l → h ≤ℤ B →
        Below (span_from (int_max (int_max l (neg_ℤ h)) (pos 0)) (int_max h (neg_ℤ l)))
        (span_from (int_max (int_max l' (neg_ℤ h')) (pos 0)) (int_max h' (neg_ℤ l')))
    by l h l' h' p q r s = span_from_below _ _ _ _ (omega (arith, ints, clamps))
        (omega (arith, ints, clamps)) (omega (arith, ints, clamps)) (top h l r s)
      where
        top : (h l : ℤ) → neg_ℤ B ≤ℤ l → h ≤ℤ B → int_max h (neg_ℤ l) ≤ℤ B
        top h l r s = omega (arith, ints, clamps)

pub abs_kind : (x : Info) → IsOf kinds.Span 0 (abs_of x)
abs_kind x = span_from_of_span 0 _ _

pub abs_sound : (x : Info) (u w : ℤ) → Holds x (Number u) → IsInRange u → IsInRange w
    → IsDistance u w → Holds (abs_of x) (Number w)
abs_sound x u w h r s e =
    let a = held_between x u h r in
    let o = ends_ordered x in
    by (low_of x) (high_of x) a.from a.to o.above o.below
  where
    by : (lo hi : ℤ) → lo ≤ℤ u → u ≤ℤ hi → neg_ℤ B ≤ℤ lo → hi ≤ℤ B →
        Holds (span_from (int_max (int_max lo (neg_ℤ hi)) (pos 0)) (int_max hi (neg_ℤ lo)))
        (Number w)
    by lo hi p q k l = span_from_holds _ _ w (omega (arith, ints, clamps, e))
        (omega (arith, ints, clamps, e)) (omega (arith, ints, clamps)) (omega (arith, ints, clamps))

-- ---- numbers at a distance

turned : (a b : ℤ) → a ≤ℤ b → neg_ℤ b ≤ℤ neg_ℤ a
turned a b p = omega (arith, ints)

pub at_distance_below : (x x' : Info) (near far near' far' : ℤ) → AreWithin x x' → near ≤ℤ near'
    → far' ≤ℤ far → Below (at_distance x near far) (at_distance x' near' far')
at_distance_below x x' near far near' far' a p q = narrowed_below _ _ (hull_below _ _ _ _
    (part_below x x' _ _ _ _ a (turned _ _ q) (turned _ _ p)) (part_below x x' _ _ _ _ a p q))

pub at_distance_kind : (x : Info) (near far : ℤ) → IsOf kinds.Span 0 (at_distance x near far)
at_distance_kind x near far = narrowed_kind _
    (hull_kind kinds.Span 0 (part_of x (neg_ℤ far) (neg_ℤ near)) (part_of x near far)
    (part_kind 0 x (neg_ℤ far) (neg_ℤ near)) (part_kind 0 x near far))

pub at_distance_holds : (x : Info) (near far u : ℤ) → IsBetween x u → near ≤ℤ pos (unsigned_abs u)
    → pos (unsigned_abs u) ≤ℤ far → Holds (at_distance x near far) (Number u)
at_distance_holds x near far u b p q = narrowed_holds _ (Number u) (by_lt_z u (pos 0)
    (λ l. hull_holds_first (part_of x (neg_ℤ far) (neg_ℤ near)) (part_of x near far) (Number u)
    (part_holds x _ _ u b (omega (arith, ints, p, q)) (omega (arith, ints, p, q))))
    (λ l. hull_holds_second (part_of x (neg_ℤ far) (neg_ℤ near)) (part_of x near far) (Number u)
    (part_holds x _ _ u b (omega (arith, ints, p, q)) (omega (arith, ints, p, q)))))

-- ---- and back

nearest_grows : (a b : ℤ) → a ≤ℤ b → int_max a (pos 0) ≤ℤ int_max b (pos 0)
nearest_grows a b p = omega (arith, ints, clamps)

pub abs_back_below : (y x y' x' : Info) → Below y y' → Below x x' → y' ≢ Contradiction
    → x' ≢ Contradiction → Below (abs_back_of y x) (abs_back_of y' x')
abs_back_below y x y' x' p q n m =
    let a = ends_within y y' p n in
    at_distance_below x x' _ _ _ _ (ends_within x x' q m)
    (nearest_grows (low_of y) (low_of y') a.low) a.high

pub abs_back_kind : (y x : Info) → IsOf kinds.Span 0 (abs_back_of y x)
abs_back_kind y x = at_distance_kind x _ _

pub abs_back_sound : (y x : Info) (w u v : ℤ) → Holds y (Number w) → Holds x (Number u)
    → IsInRange w → IsInRange u → IsInRange v → (v ≡ u) × IsDistance u w
    → Holds (abs_back_of y x) (Number v)
abs_back_sound y x w u v h k r s t e =
    let a = held_between y w h r in
    rw e.0 (at_distance_holds x _ _ u (held_between x u k s) (near (low_of y) a.from)
    (far (high_of y) a.to))
  where
    is : w ≡ int_max u (neg_ℤ u)
    is = e.1

    near : (lo : ℤ) → lo ≤ℤ w → int_max lo (pos 0) ≤ℤ pos (unsigned_abs u)
    near lo p = omega (arith, ints, clamps, is)

    far : (hi : ℤ) → w ≤ℤ hi → pos (unsigned_abs u) ≤ℤ hi
    far hi p = omega (arith, ints, clamps, is)
