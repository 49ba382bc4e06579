-- Spans by the places of their numbers.
use Rattle.std.proofs.Common.{◌≡◌, ℕ, suc, ◌+◌, ◌<◌, ◌≤◌, ℤ, pos, neg_ℤ, ◌+ℤ◌, ◌-ℤ◌, ◌≤ℤ◌}
use Rattle.std.proofs.Common.{List, [], ◌∷◌, map, arith, refl}
use Rattle.std.specs.Prelude.{unsigned_abs}
use Rattle.std.specs.List.{AllByRecursion as Each}
use Rattle.std.proofs.lemmas.Int.{ints}
use Rattle.prop_lattice.specs.Ends.{numbers_in}
use Rattle.prop_lattice.specs.declared.span.Span as spans
use Rattle.prop_lattice.specs.declared.span.TheConstants.{B}
use Rattle.prop_hall.specs.laws.HullLaws.{numbers_are, size_of}
use Rattle.prop_hall.proofs.RunLemmas.{Ends, inside}

-- ---- numbers by their places

-- how many numbers there are; no proof looks into it, since its powers are large
pub range : ℕ
range = 2_000_000_000_000_000_001

pub range_is : range ≡ 2_000_000_000_000_000_001
unfolding range
range_is = refl

abbrev pub place : ℤ → ℕ
place v = unsigned_abs (v -ℤ neg_ℤ B)

abbrev pub number : ℕ → ℤ
number n = pos n +ℤ neg_ℤ B

pub place_is : (v : ℤ) → neg_ℤ B ≤ℤ v → pos (place v) ≡ v -ℤ neg_ℤ B
place_is v h = size_of (v -ℤ neg_ℤ B) (omega (arith, ints, h))

pub number_of : (v : ℤ) → neg_ℤ B ≤ℤ v → number (place v) ≡ v
number_of v h = omega (arith, ints, place_is v h)

pub same_number : (i j : ℕ) → number i ≡ number j → i ≡ j
same_number i j e = omega (arith, ints, e)

abbrev pub ends_of : spans.Span → Ends
ends_of s = (place s.lo, place s.hi)

pub first_place : (s : spans.Span) → pos (place s.lo) ≡ s.lo -ℤ neg_ℤ B
first_place s = place_is s.lo s.above

pub last_place : (s : spans.Span) → pos (place s.hi) ≡ s.hi -ℤ neg_ℤ B
last_place s = place_is s.hi (omega (arith, ints, s.above, s.ordered))

pub ends_ordered : (ss : List spans.Span) → Each (λ e. e.0 ≤ e.1) (map ends_of ss)
ends_ordered [] = tt
ends_ordered (s ∷ ss) = (omega (arith, ints, first_place s, last_place s, s.ordered), ends_ordered ss)

pub ends_within : (ss : List spans.Span) → Each (λ e. e.1 < range) (map ends_of ss)
ends_within [] = tt
ends_within (s ∷ ss) = (omega (arith, ints, last_place s, s.below, range_is), ends_within ss)

-- how many of the spans lie in a span
abbrev pub inside_span : spans.Span → List spans.Span → ℕ
inside_span w ss = inside (place w.lo) (place w.hi) (map ends_of ss)

pub numbers_place : (w : spans.Span) → numbers_in w + place w.lo ≡ suc (place w.hi)
numbers_place w = omega (arith, ints, numbers_are w, first_place w, last_place w)

abbrev pub span_at : (g k : ℕ) → g ≤ k → k < range → spans.Span
span_at g k l h = record {
  lo = number g;
  hi = number k;
  above = omega (arith, ints);
  ordered = omega (arith, ints, l);
  below = omega (arith, ints, h, range_is);
}

pub place_of : (n : ℕ) → place (number n) ≡ n
place_of n = omega (arith, ints, place_is (number n) (omega (arith, ints)))
