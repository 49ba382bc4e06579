-- What is known of hulls.
use Rattle.std.specs.Prelude.{◌≡◌, ℕ, zero, suc, ◌<◌, ◌≤◌, ◌^◌, max, ℤ, neg_ℤ, ◌≤ℤ◌, ◌⊎◌, Bool}
use Rattle.std.specs.Prelude.{true, false, ◌==◌}
use Rattle.std.specs.Prelude.{if◌then◌else◌, bit_or}
use Rattle.std.specs.Int.{bit_at}
use Rattle.std.proofs.Common.{arith, refl, rules, sym, subst, ◌∙◌, inl, inr, eqb-true, eq-eqb}
use Rattle.std.proofs.lemmas.Int.{ints, clamps}
use Rattle.std.proofs.lemmas.Nat.{or_lt}
use Rattle.std.proofs.lemmas.Nat.Bits.{bit_at_or}
use Rattle.prop_lattice.specs.Ends.{AreEnds, ends_or_not, some_or_not}
use Rattle.prop_lattice.specs.inner.Ends.{AreSome, span_if}
use Rattle.prop_lattice.specs.Ends.{span_from, elements_from}
use Rattle.prop_lattice.specs.inner.Ends.{elements_if}
use Rattle.prop_lattice.specs.Order.{Below}
use Rattle.prop_lattice.specs.laws.OrderLaws.{info_laws, to_top}
use Rattle.prop_lattice.specs.laws.PartLaws.{bit_at_le, part_of_none}
use Rattle.std.proofs.lemmas.Bool.{cases_lt}
use Rattle.prop_lattice.specs.laws.Parts.{HasBitsOf}
use Rattle.prop_lattice.specs.Parts.{AllBelow}
use Rattle.prop_lattice.specs.Points.{Point, Number, Element, Symbol, Holds}
use Rattle.prop_lattice.specs.Rank.{IsOf}
use Rattle.prop_lattice.specs.declared.span.TheConstants.{B}
use Rattle.prop_lattice.specs.declared.elements.Elements as sets
use Rattle.prop_lattice.specs.declared.info.Info.{Info}
use Rattle.prop_lattice.specs.declared.info.Info.TheVariants.{Nothing, Span, Set, Sym}
use Rattle.prop_lattice.specs.declared.info.Info.TheVariants.{Contradiction}
use Rattle.prop_lattice.specs.declared.info.Kind.{Kind}
use Rattle.prop_lattice.specs.declared.info.Kind.TheVariants as kinds
use Rattle.prop_lattice.specs.declared.span.Span as spans
use Rattle.prop_intervals.specs.laws.ClipLaws.{span_from_of_span}
use Rattle.prop_sets.specs.laws.NarrowestLaws.{elements_of_kind}
use Rattle.prop_wide.specs.Hulls.{hull_of, narrowed}
use Rattle.prop_wide.specs.laws.EndLaws.{known_below, known_kind, known_holds}

-- ---- spans

-- wider ends say less
span_from_under : (lo hi : ℤ) (a : spans.Span) → neg_ℤ B ≤ℤ lo → hi ≤ℤ B → lo ≤ℤ a.lo → a.hi ≤ℤ hi
    → Below (span_from lo hi) (Span a)
unfolding span_from
span_from_under lo hi a p q r s = by (ends_or_not lo hi)
  where
    by : (d : AreEnds lo hi ⊎ ¬ (AreEnds lo hi)) → Below (span_if lo hi d) (Span a)
    by (inl d) = (r, s)
    by (inr f) = absurd (f (p, omega (arith, ints, a.ordered, r, s), q))

-- and closer ends say more
span_from_over : (lo hi : ℤ) (a : spans.Span) → a.lo ≤ℤ lo → hi ≤ℤ a.hi
    → Below (Span a) (span_from lo hi)
unfolding span_from
span_from_over lo hi a p q = by (ends_or_not lo hi)
  where
    by : (d : AreEnds lo hi ⊎ ¬ (AreEnds lo hi)) → Below (Span a) (span_if lo hi d)
    by (inl d) = (p, q)
    by (inr f) = tt

-- ---- sets

or_left_bits : (a b : ℕ) → HasBitsOf (bit_or a b) a
or_left_bits a b i h = omega (arith, bit_at_or a b i, h, bit_at_le b i)

or_right_bits : (a b : ℕ) → HasBitsOf (bit_or a b) b
or_right_bits a b i h = omega (arith, bit_at_or a b i, h, bit_at_le a i)

-- a bit of both is one of either
pub or_bit : (a b i : ℕ) → bit_at (bit_or a b) i ≡ 1 → (bit_at a i ≡ 1) ⊎ (bit_at b i ≡ 1)
or_bit a b i h = by (bit_at a i) (bit_at b i) (bit_at_le a i) (bit_at_le b i)
    (sym (bit_at_or a b i) ∙ h)
  where
    by : (m n : ℕ) → m ≤ 1 → n ≤ 1 → max m n ≡ 1 → (m ≡ 1) ⊎ (n ≡ 1)
    by zero n k l e = inr (omega (arith, e))
    by (suc m) n k l e = inl (omega (arith, k))

or_least : (a b c : ℕ) → HasBitsOf c a → HasBitsOf c b → HasBitsOf c (bit_or a b)
or_least a b c p q i h = elim (or_bit a b i h) [ inl f ↦ p i f | inr f ↦ q i f ]

elements_under : (bits : ℕ) (s : sets.Elements) → bits < 2 ^ 64 → HasBitsOf bits s.bits
    → Below (elements_from bits) (Set s)
unfolding elements_from
elements_under bits s l h = by (some_or_not bits)
  where
    by : (d : AreSome bits ⊎ ¬ (AreSome bits)) → Below (elements_if bits d) (Set s)
    by (inl d) = h
    by (inr f) = absurd (f (some (cases_lt 0 bits), l))
      where
        some : (0 < bits) ⊎ (bits ≤ 0) → 0 < bits
        some (inl k) = k
        some (inr k) =
            let none : bits ≡ 0 = omega arith in
            absurd (omega (arith, part_of_none bits s.bits none h, s.some))

elements_over : (bits : ℕ) (s : sets.Elements) → HasBitsOf s.bits bits
    → Below (Set s) (elements_from bits)
unfolding elements_from
elements_over bits s h = by (some_or_not bits)
  where
    by : (d : AreSome bits ⊎ ¬ (AreSome bits)) → Below (Set s) (elements_if bits d)
    by (inl d) = h
    by (inr f) = tt

-- ---- a hull says no more than either

hull_left : (a b : Info) → Below (hull_of a b) a
hull_left Contradiction b = to_top b
hull_left Nothing Contradiction = tt
hull_left (Span a) Contradiction = info_laws.reflexive (Span a)
hull_left (Set a) Contradiction = info_laws.reflexive (Set a)
hull_left (Sym a) Contradiction = refl
hull_left (Span a) (Span b) = span_from_under _ _ a (omega (arith, ints, clamps, a.above, b.above))
    (omega (arith, ints, clamps, a.below, b.below)) (omega (arith, ints, clamps))
    (omega (arith, ints, clamps))
hull_left (Set a) (Set b) =
    elements_under _ a (or_lt 64 a.bits b.bits a.fits b.fits) (or_left_bits a.bits b.bits)
hull_left (Sym a) (Sym b) = by (a == b)
  where
    by : (s : Bool) → Below (if s then Sym a else Nothing) (Sym a)
    by true = refl
    by false = tt
hull_left a b = search rules

hull_right : (a b : Info) → Below (hull_of a b) b
hull_right Contradiction b = info_laws.reflexive b
hull_right a Contradiction = to_top (hull_of a Contradiction)
hull_right (Span a) (Span b) = span_from_under _ _ b
    (omega (arith, ints, clamps, a.above, b.above)) (omega (arith, ints, clamps, a.below, b.below))
    (omega (arith, ints, clamps)) (omega (arith, ints, clamps))
hull_right (Set a) (Set b) =
    elements_under _ b (or_lt 64 a.bits b.bits a.fits b.fits) (or_right_bits a.bits b.bits)
hull_right (Sym a) (Sym b) = by (a == b) refl
  where
    by : (s : Bool) → (a == b) ≡ s → Below (if s then Sym a else Nothing) (Sym b)
    by true e = eqb-true a b e
    by false e = tt
hull_right a b = search rules

-- and all that both say
hull_most : (a b c : Info) → Below c a → Below c b → Below c (hull_of a b)
hull_most Contradiction b c p q = q
hull_most Nothing Contradiction c p q = p
hull_most (Span a) Contradiction c p q = p
hull_most (Set a) Contradiction c p q = p
hull_most (Sym a) Contradiction c p q = p
hull_most (Span a) (Span b) Nothing p q = tt
hull_most (Span a) (Span b) (Span c) p q =
    span_from_over _ _ c (omega (arith, ints, clamps, p.0, q.0)) (omega
    (arith, ints, clamps, p.1, q.1))
hull_most (Set a) (Set b) Nothing p q = tt
hull_most (Set a) (Set b) (Set c) p q = elements_over _ c (or_least a.bits b.bits c.bits p q)
hull_most (Sym a) (Sym b) Nothing p q = tt
hull_most (Sym a) (Sym b) (Sym c) p q =
    subst (λ s. Below (Sym c) (if s then Sym a else Nothing)) (sym (eq-eqb a b (sym p ∙ q))) p
hull_most a b c p q = search rules

pub hull_below : (a b a' b' : Info) → Below a a' → Below b b'
    → Below (hull_of a b) (hull_of a' b')
hull_below a b a' b' p q = hull_most a' b' (hull_of a b)
    (info_laws.transitive (hull_of a b) a a' (hull_left a b) p)
    (info_laws.transitive (hull_of a b) b b' (hull_right a b) q)

-- ---- points and kinds

-- what says less leaves each point
pub still_holds : (a b : Info) (p : Point) → Below a b → Holds b p → Holds a p
still_holds Nothing b p l h = tt
still_holds (Span a) (Span b) (Number v) l h =
    (omega (arith, ints, l.0, h.0), omega (arith, ints, l.1, h.1))
still_holds (Set a) (Set b) (Element i) l h = l i h
still_holds (Sym a) (Sym b) (Symbol c) l h = l ∙ h
still_holds a b p l h = search rules

pub hull_holds_first : (a b : Info) (p : Point) → Holds a p → Holds (hull_of a b) p
hull_holds_first a b p h = still_holds (hull_of a b) a p (hull_left a b) h

pub hull_holds_second : (a b : Info) (p : Point) → Holds b p → Holds (hull_of a b) p
hull_holds_second a b p h = still_holds (hull_of a b) b p (hull_right a b) h

pub hull_kind : (kind : Kind) (size : ℕ) (a b : Info) → IsOf kind size a → IsOf kind size b
    → IsOf kind size (hull_of a b)
hull_kind kind size Contradiction b p q = q
hull_kind kind size Nothing Contradiction p q = p
hull_kind kind size (Span a) Contradiction p q = p
hull_kind kind size (Set a) Contradiction p q = p
hull_kind kind size (Sym a) Contradiction p q = p
hull_kind kinds.Span size (Span a) (Span b) p q = span_from_of_span size _ _
hull_kind (kinds.Set domain) size (Set a) (Set b) p q = elements_of_kind domain size _ below
  where
    below : AllBelow size (bit_or a.bits b.bits)
    below i h = elim (or_bit a.bits b.bits i h) [ inl f ↦ p i f | inr f ↦ q i f ]
hull_kind kinds.Symbol size (Sym a) (Sym b) p q = by (a == b)
  where
    by : (s : Bool) → IsOf kinds.Symbol size (if s then Sym a else Nothing)
    by true = tt
    by false = tt
hull_kind kind size a b p q = search rules

-- ---- all numbers in range

pub narrowed_below : (a b : Info) → Below a b → Below (narrowed a) (narrowed b)
narrowed_below (Span a) (Span b) p = known_below _ _ _ _ p.0 p.1
narrowed_below (Span a) Contradiction p = to_top _
narrowed_below a b p = search rules

pub narrowed_kind : (a : Info) → IsOf kinds.Span 0 a → IsOf kinds.Span 0 (narrowed a)
narrowed_kind (Span a) p = known_kind 0 _ _
narrowed_kind a p = search rules

pub narrowed_holds : (a : Info) (p : Point) → Holds a p → Holds (narrowed a) p
narrowed_holds (Span a) (Number v) h = known_holds _ _ v h.0 h.1
    (omega (arith, ints, a.above, h.0), omega (arith, ints, a.below, h.1))
narrowed_holds a p h = search rules
