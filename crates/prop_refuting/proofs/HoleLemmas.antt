-- What an end and numbers that aren't so say together.
use Rattle.std.proofs.Common.{◌≡◌, ℕ, zero, suc, ℤ, pos, ◌+ℤ◌, List, [], ◌∷◌, refl, subst, arith}
use Rattle.std.proofs.Common.{All}
use Rattle.std.proofs.lemmas.Int.{by_lt_z, ints}
use Rattle.std.proofs.lemmas.List.Elements.{All-head}
use Rattle.prop_lattice.specs.Points.{Point, Number, Element, Symbol}
use Rattle.prop_cells.specs.Points.{Attached}
use Rattle.prop_facts.specs.Facts.{IsSo}
use Rattle.prop_facts.specs.declared.fact.Fact.TheVariants.{AtLeast, AtMost, Other}
use Rattle.prop_refuting.specs.Places.{IsSoAt, point_at}
use Rattle.prop_refuting.specs.Steps.{holes_at}
use Rattle.prop_refuting.proofs.MeetLemmas.{all_first, all_second}

module _ (n : Attached) (points : ℕ → Point) (list : List ℕ) (place : ℕ) where
  last_hole : (first : ℤ) (k : ℕ) → All (IsSoAt n points list) (holes_at place first (suc k))
      → IsSo (Other (first +ℤ pos k)) (point_at n points list place)
  last_hole first k h = All-head (IsSoAt n points list) (record { place = place; fact = Other (first +ℤ pos k) }) []
      (all_second (IsSoAt n points list) (holes_at place first k)
      (record { place = place; fact = Other (first +ℤ pos k) } ∷ []) h)

  front_holes : (first : ℤ) (k : ℕ) → All (IsSoAt n points list) (holes_at place first (suc k))
      → All (IsSoAt n points list) (holes_at place first k)
  front_holes first k h = all_first (IsSoAt n points list) (holes_at place first k)
      (record { place = place; fact = Other (first +ℤ pos k) } ∷ []) h

  above : (p : Point) (m l : ℤ) (k : ℕ) → l ≡ m +ℤ pos (suc k) → IsSo (AtLeast (m +ℤ pos k)) p
      → IsSo (Other (m +ℤ pos k)) p → IsSo (AtLeast l) p
  above (Number v) m l k e h o = by_lt_z (m +ℤ pos k) v (λ g. omega (arith, ints, e, g))
      (λ g. absurd (o (omega (arith, ints, g, h))))
  above (Element i) m l k e h o = h
  above (Symbol i) m l k e h o = h

  -- no less than a number, and none of so many from there on
  pub at_least_by_holes : (count : ℕ) (first m : ℤ) → m ≡ first +ℤ pos count
      → IsSo (AtLeast first) (point_at n points list place) → All (IsSoAt n points list) (holes_at place first count)
      → IsSo (AtLeast m) (point_at n points list place)
  at_least_by_holes zero first m e h holes = let P : ℤ → Type 0 = λ k. IsSo (AtLeast k) (point_at n points list place)
      in subst P (omega (arith, ints, e)) h
  at_least_by_holes (suc k) first m e h holes = above (point_at n points list place) first m k e
      (at_least_by_holes k first (first +ℤ pos k) refl h (front_holes first k holes)) (last_hole first k holes)

  below : (p : Point) (m l : ℤ) (k : ℕ) → l ≡ m +ℤ pos (suc k) → IsSo (AtMost l) p
      → IsSo (Other ((m +ℤ pos 1) +ℤ pos k)) p → IsSo (AtMost (m +ℤ pos k)) p
  below (Number v) m l k e h o = by_lt_z v l (λ g. omega (arith, ints, e, g))
      (λ g. absurd (o (omega (arith, ints, e, g, h))))
  below (Element i) m l k e h o = h
  below (Symbol i) m l k e h o = h

  -- no more than a number, and none of so many down from there
  pub at_most_by_holes : (count : ℕ) (m far : ℤ) → far ≡ m +ℤ pos count
      → IsSo (AtMost far) (point_at n points list place)
      → All (IsSoAt n points list) (holes_at place (m +ℤ pos 1) count) → IsSo (AtMost m) (point_at n points list place)
  at_most_by_holes zero m far e h holes = let P : ℤ → Type 0 = λ k. IsSo (AtMost k) (point_at n points list place)
      in subst P (omega (arith, ints, e)) h
  at_most_by_holes (suc k) m far e h holes = at_most_by_holes k m (m +ℤ pos k) refl
      (below (point_at n points list place) m far k e h (last_hole (m +ℤ pos 1) k holes))
      (front_holes (m +ℤ pos 1) k holes)
