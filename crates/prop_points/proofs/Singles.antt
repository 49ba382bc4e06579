-- What is known of informations that leave a single point.
use Rattle.std.specs.Prelude.{◌≡◌, ◌≢◌, ◌⊎◌, ℕ, ◌^◌, true, count_ones}
use Rattle.std.specs.Int.{bit_at}
use Rattle.std.proofs.Common.{arith, refl, rules, ap, sym, ◌∙◌, inl, inr, eq-eqb}
use Rattle.std.proofs.lemmas.Bool.{cases_eq}
use Rattle.std.proofs.lemmas.Bool.Decides.{Decides-int_eq}
use Rattle.std.proofs.lemmas.Int.{ints}
use Rattle.std.proofs.lemmas.Nat.{zero_from_ones, pow_pos}
use Rattle.std.proofs.lemmas.Nat.Bits.{bit_at-pow_other}
use Rattle.prop_lattice.proofs.PartLemmas.{ones_part}
use Rattle.prop_lattice.specs.Order.{Below}
use Rattle.prop_lattice.specs.Points.{Point, Number, Element, Symbol, Holds, IsPointOf}
use Rattle.prop_lattice.specs.Rank.{IsOf}
use Rattle.prop_lattice.specs.declared.elements.Elements as sets
use Rattle.prop_lattice.specs.declared.info.Info.{Info}
use Rattle.prop_lattice.specs.declared.info.Info.TheVariants.{Nothing, Span, Set, Sym, Contradiction}
use Rattle.prop_lattice.specs.declared.info.Kind.{Kind}
use Rattle.prop_lattice.specs.declared.info.Kind.TheVariants as kinds
use Rattle.prop_lattice.specs.laws.Parts.{HasBitsOf}
use Rattle.prop_arith.specs.Comparing.{is_single}
use Rattle.prop_arith.specs.laws.SingleLaws.{single_points}
use Rattle.prop_hall.specs.laws.HullLaws.{below_holds}
use Rattle.prop_points.specs.Singles.{IsSingle}

-- as the kit tests it
pub single_tested : (a : Info) (p : Point) → IsSingle a p → is_single a ≡ true
single_tested (Span s) (Number v) e = (Decides-int_eq s.lo s.hi).1 (e.0 ∙ sym e.1)
single_tested (Set s) (Element i) e = eq-eqb (count_ones s.bits) 1 e.0
single_tested (Sym a) (Symbol b) e = refl
single_tested a p e = search rules

pub single_holds : (a : Info) (p : Point) → IsSingle a p → Holds a p
single_holds (Span s) (Number v) e = (omega (arith, ints, e.0), omega (arith, ints, e.1))
single_holds (Set s) (Element i) e = e.1
single_holds (Sym a) (Symbol b) e = e
single_holds a p e = search rules

-- there is no other point
pub single_only : (a : Info) (p q : Point) → IsSingle a p → Holds a q → q ≡ p
single_only a p q e h = single_points a q p (single_tested a p e) h (single_holds a p e)

-- what says less holds it
pub below_single : (a b : Info) (p : Point) → Below a b → IsSingle b p → Holds a p
below_single a b p l e = below_holds a b p l (single_holds b p e)

pub single_of_kind : (kind : Kind) (size : ℕ) (a : Info) (p : Point) → IsOf kind size a → IsSingle a p
    → IsPointOf kind size p
single_of_kind kinds.Span size (Span s) (Number v) k e =
    (omega (arith, ints, e.0, s.above), omega (arith, ints, e.1, s.below))
single_of_kind (kinds.Set d) size (Set s) (Element i) k e = k i e.1
single_of_kind kinds.Symbol size (Sym a) (Symbol b) k e = tt
single_of_kind kind size a p k e = search rules

pub single_clear : (a : Info) (p : Point) → IsSingle a p → a ≢ Contradiction
single_clear Contradiction p e = absurd e
single_clear Nothing p e = λ h. cc
single_clear (Span s) p e = λ h. cc
single_clear (Set s) p e = λ h. cc
single_clear (Sym a) p e = λ h. cc

-- ---- one bit

pub bit_of_power : (i j : ℕ) → bit_at (2 ^ i) j ≡ 1 → j ≡ i
bit_of_power i j h = by (cases_eq j i)
  where
    by : (j ≡ i) ⊎ (j ≢ i) → j ≡ i
    by (inl same) = same
    by (inr other) = absurd (omega (arith, h, bit_at-pow_other i j other))

-- a set of one element has its bit alone
pub single_bits : (s : sets.Elements) (i : ℕ) → IsSingle (Set s) (Element i) → s.bits ≡ 2 ^ i
single_bits s i e = (ones_part 64 s.bits (2 ^ i) s.fits part).1 (by (cases_eq (count_ones (2 ^ i)) 0))
  where
    part : HasBitsOf s.bits (2 ^ i)
    part j k = ap (bit_at s.bits) (bit_of_power i j k) ∙ e.1

    by : (count_ones (2 ^ i) ≡ 0) ⊎ (count_ones (2 ^ i) ≢ 0) → count_ones (2 ^ i) ≡ count_ones s.bits
    by (inl none) = absurd (omega (arith, pow_pos i, zero_from_ones (2 ^ i) none))
    by (inr more) = omega (arith, more, e.0, (ones_part 64 s.bits (2 ^ i) s.fits part).0)
