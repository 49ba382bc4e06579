-- The laws of hulls: the highest information that both or all say, and how many points it has.
use Rattle.std.specs.Prelude.{neg_ℤ, ◌⊎◌, ◌≡◌, ℕ, ◌≤◌, ◌<◌, ◌^◌, ℤ, pos, ◌≤ℤ◌, ◌-ℤ◌, ◌+ℤ◌, Bool}
use Rattle.std.specs.Prelude.{true, false}
use Rattle.std.specs.Prelude.{◌==◌, if◌then◌else◌, List, [], ◌∷◌, bit_or, count_ones, unsigned_abs}
use Rattle.std.specs.Int.{int_max, int_min}
use Rattle.std.proofs.Common.{inl, inr, arith, refl, rules, ap, sym, subst, ◌∙◌, eqb-true, eq-eqb}
use Rattle.std.proofs.lemmas.Int.{ints, clamps}
use Rattle.std.proofs.lemmas.Bool.{cases_lt}
use Rattle.std.proofs.lemmas.Nat.{or_lt, zero_from_ones}
use Rattle.std.proofs.lemmas.Nat.Bits.{bit_at_or, bit_at-lt}
use Rattle.prop_intervals.specs.laws.ClipLaws.{span_from_below}
use Rattle.prop_lattice.proofs.EndLemmas.{span_is, elements_are}
use Rattle.prop_lattice.proofs.PartLemmas.{ones_part, ones_of_below, below_top}
use Rattle.prop_lattice.specs.Ends.{span_from, elements_from, numbers_in}
use Rattle.prop_lattice.specs.Order.{Below}
use Rattle.prop_lattice.specs.Points.{Point, Number, Element, Symbol, Holds}
use Rattle.prop_lattice.specs.declared.elements.Elements as sets
use Rattle.prop_lattice.specs.declared.info.Info.{Info}
use Rattle.prop_lattice.specs.declared.info.Info.TheVariants.{Nothing, Span, Set, Sym}
use Rattle.prop_lattice.specs.declared.info.Info.TheVariants.{Contradiction}
use Rattle.prop_lattice.specs.declared.span.Span as spans
use Rattle.prop_lattice.specs.declared.span.TheConstants.{B}
use Rattle.prop_lattice.specs.laws.OrderLaws.{info_laws, to_top, same_span, same_elements}
use Rattle.prop_lattice.specs.laws.Parts.{HasBitsOf}
use Rattle.prop_procedures.specs.Rules.{EachBelow}
use Rattle.prop_sets.specs.laws.NarrowestLaws.{elements_below}
use Rattle.prop_hall.specs.Hulls.{hull_of, hull_of_two, points_in}

pub never : false ≡ true → ⊥
never e = cc

-- ---- of two

or_fits : (a b : sets.Elements) → bit_or a.bits b.bits < 2 ^ 64
or_fits a b = or_lt 64 a.bits b.bits a.fits b.fits

or_first : (a b : ℕ) → HasBitsOf (bit_or a b) a
or_first a b i h = omega (arith, bit_at_or a b i, bit_at-lt a i, bit_at-lt b i)

or_second : (a b : ℕ) → HasBitsOf (bit_or a b) b
or_second a b i h = omega (arith, bit_at_or a b i, bit_at-lt a i, bit_at-lt b i)

or_least : (a b c : ℕ) → HasBitsOf c a → HasBitsOf c b → HasBitsOf c (bit_or a b)
or_least a b c p q i h = grind (arith, bit_at_or a b i, bit_at-lt a i, bit_at-lt b i, p i, q i)

below_span : (lo hi : ℤ) (s : spans.Span) → neg_ℤ B ≤ℤ lo → hi ≤ℤ B → lo ≤ℤ s.lo → s.hi ≤ℤ hi
    → Below (span_from lo hi) (Span s)
below_span lo hi s above below p q =
    subst (Below (span_from lo hi)) (sym (span_is s.lo s.hi s refl refl))
    (span_from_below lo hi s.lo s.hi p q above below)

pub above_span : (lo hi : ℤ) (s : spans.Span) → s.lo ≤ℤ lo → hi ≤ℤ s.hi
    → Below (Span s) (span_from lo hi)
above_span lo hi s p q =
    subst (λ x. Below x (span_from lo hi)) (sym (span_is s.lo s.hi s refl refl))
    (span_from_below s.lo s.hi lo hi p q s.above s.below)

below_set : (bits : ℕ) (s : sets.Elements) → bits < 2 ^ 64 → HasBitsOf bits s.bits
    → Below (elements_from bits) (Set s)
below_set bits s fits h =
    subst (Below (elements_from bits)) (sym (elements_are s.bits s refl))
    (elements_below bits s.bits fits h)

pub above_set : (bits : ℕ) (s : sets.Elements) → HasBitsOf s.bits bits
    → Below (Set s) (elements_from bits)
above_set bits s h =
    subst (λ x. Below x (elements_from bits)) (sym (elements_are s.bits s refl))
    (elements_below s.bits bits s.fits h)

pub hull_first : (a b : Info) → Below (hull_of_two a b) a
hull_first Contradiction b = to_top b
hull_first a Contradiction = info_laws.reflexive a
hull_first (Span a) (Span b) = below_span (int_min a.lo b.lo) (int_max a.hi b.hi) a
    (omega (arith, ints, clamps)) (omega (arith, ints, clamps)) (omega (arith, ints, clamps))
    (omega (arith, ints, clamps))
hull_first (Set a) (Set b) = below_set _ a (or_fits a b) (or_first a.bits b.bits)
hull_first (Sym a) (Sym b) = by (a == b)
  where
    by : (t : Bool) → Below (if t then Sym a else Nothing) (Sym a)
    by true = refl
    by false = tt
hull_first a b = tt

pub hull_second : (a b : Info) → Below (hull_of_two a b) b
hull_second Contradiction b = info_laws.reflexive b
hull_second a Contradiction = to_top a
hull_second (Span a) (Span b) = below_span (int_min a.lo b.lo) (int_max a.hi b.hi) b
    (omega (arith, ints, clamps)) (omega (arith, ints, clamps)) (omega (arith, ints, clamps))
    (omega (arith, ints, clamps))
hull_second (Set a) (Set b) = below_set _ b (or_fits a b) (or_second a.bits b.bits)
hull_second (Sym a) (Sym b) = by (a == b) refl
  where
    by : (t : Bool) → (a == b) ≡ t → Below (if t then Sym a else Nothing) (Sym b)
    by true e = eqb-true a b e
    by false e = tt
hull_second a b = tt

pub hull_greatest : (a b c : Info) → Below c a → Below c b → Below c (hull_of_two a b)
hull_greatest Contradiction b c p q = q
hull_greatest a Contradiction c p q = p
hull_greatest (Span a) (Span b) (Span c) p q =
    above_span (int_min a.lo b.lo) (int_max a.hi b.hi) c (omega (arith, ints, clamps))
    (omega (arith, ints, clamps))
hull_greatest (Set a) (Set b) (Set c) p q = above_set _ c (or_least a.bits b.bits c.bits p q)
hull_greatest (Sym a) (Sym b) (Sym c) p q = by (a == b) refl
  where
    by : (t : Bool) → (a == b) ≡ t → Below (Sym c) (if t then Sym a else Nothing)
    by true e = p
    by false e = absurd (never (sym e ∙ eq-eqb a b (sym p ∙ q)))
hull_greatest a b Nothing p q = tt
hull_greatest a b c p q = search rules

-- ---- of all

pub hull_below : (xs ys : List Info) → EachBelow xs ys → Below (hull_of xs) (hull_of ys)
hull_below [] [] p = tt
hull_below (x ∷ xs) (y ∷ ys) p =
    hull_greatest y (hull_of ys) (hull_of_two x (hull_of xs))
    (info_laws.transitive (hull_of_two x (hull_of xs)) x y (hull_first x (hull_of xs)) p.0)
    (info_laws.transitive (hull_of_two x (hull_of xs)) (hull_of xs) (hull_of ys)
    (hull_second x (hull_of xs)) (hull_below xs ys p.1))
hull_below xs ys p = search rules

-- ---- points

-- what says less holds no fewer points
pub below_holds : (a b : Info) (p : Point) → Below a b → Holds b p → Holds a p
below_holds Nothing b p l h = tt
below_holds (Span a) (Span b) (Number v) l h = (omega (arith, ints), omega (arith, ints))
below_holds (Set a) (Set b) (Element i) l h = l i h
below_holds (Sym a) (Sym b) (Symbol c) l h = l ∙ h
below_holds a b p l h = search rules

pub size_of : (z : ℤ) → pos 0 ≤ℤ z → pos (unsigned_abs z) ≡ z
size_of z h = omega (arith, ints)

pub numbers_are : (s : spans.Span) → pos (numbers_in s) ≡ (s.hi -ℤ s.lo) +ℤ pos 1
numbers_are s = omega (arith, ints, size_of (s.hi -ℤ s.lo) (omega (arith, ints)))

elements_few : (s : sets.Elements) → count_ones s.bits ≤ 64
elements_few s = ones_of_below s.bits 64 (below_top s.bits s.fits)

some_ones : (s : sets.Elements) → 0 < count_ones s.bits
some_ones s = by (cases_lt 0 (count_ones s.bits))
  where
    by : (0 < count_ones s.bits) ⊎ (count_ones s.bits ≤ 0) → 0 < count_ones s.bits
    by (inl some) = some
    by (inr none) = absurd (omega (arith, s.some, zero_from_ones s.bits (omega arith)))

-- it has no fewer of them, and says less only where it has more
pub fewer_points : (a b : Info) → Below a b
    → (points_in b ≤ points_in a) × (points_in b ≡ points_in a → a ≡ b)
fewer_points Nothing Nothing l = (omega arith, λ e. refl)
fewer_points Nothing (Span b) l =
    (omega (arith, ints, numbers_are b), λ e. absurd (omega (arith, ints, numbers_are b)))
fewer_points Nothing (Set b) l =
    (omega (arith, elements_few b), λ e. absurd (omega (arith, elements_few b)))
fewer_points Nothing (Sym b) l = (omega arith, λ e. absurd (omega arith))
fewer_points Nothing Contradiction l = (omega arith, λ e. absurd (omega arith))
fewer_points (Span a) (Span b) l = (
  omega (arith, ints, numbers_are a, numbers_are b),
  λ e. ap Span (same_span a b (omega (arith, ints, numbers_are a, numbers_are b))
      (omega (arith, ints, numbers_are a, numbers_are b))),
)
fewer_points (Span a) Contradiction l = (omega arith, λ e. absurd (omega arith))
fewer_points (Set a) (Set b) l =
    let part = ones_part 64 a.bits b.bits a.fits l in
    (part.0, λ e. ap Set (same_elements a b (part.1 e)))
fewer_points (Set a) Contradiction l =
    (omega arith, λ e. absurd (omega (arith, some_ones a)))
fewer_points (Sym a) (Sym b) l = (omega arith, λ e. ap Sym l)
fewer_points (Sym a) Contradiction l = (omega arith, λ e. absurd (omega arith))
fewer_points Contradiction Contradiction l = (omega arith, λ e. refl)
fewer_points a b l = search rules
