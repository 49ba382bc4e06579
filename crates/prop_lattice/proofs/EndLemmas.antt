-- When two ends make a span, and bits make elements.
use Rattle.std.proofs.Common.{◌≡◌, ℕ, ℤ, ◌≤ℤ◌, neg_ℤ, ◌⊎◌, inl, inr, refl, ap, sym, subst}
use Rattle.prop_lattice.specs.declared.span.TheConstants.{B}
use Rattle.prop_lattice.specs.declared.span.Span as spans
use Rattle.prop_lattice.specs.declared.elements.Elements as sets
use Rattle.prop_lattice.specs.declared.info.Info.TheVariants.{Span, Set, Contradiction}
use Rattle.prop_lattice.specs.Ends.{AreEnds, ends_or_not, some_or_not, span_from}
use Rattle.prop_lattice.specs.inner.Ends.{AreSome, span_if, elements_if}
use Rattle.prop_lattice.specs.Ends.{elements_from}
use Rattle.prop_lattice.specs.laws.OrderLaws.{same_span, same_elements}

pub span_from-ends : (lo hi : ℤ) (s : spans.Span) → s.lo ≡ lo → s.hi ≡ hi → span_from lo hi ≡ Span s
unfolding span_from
span_from-ends lo hi s p q = by (ends_or_not lo hi)
  where
    by : (d : AreEnds lo hi ⊎ ¬ (AreEnds lo hi)) → span_if lo hi d ≡ Span s
    by (inl e) = ap Span (same_span (record { lo = lo; hi = hi; above = e.0; ordered = e.1; below = e.2 }) s (sym p)
        (sym q))
    by (inr f) = absurd (f (subst (λ x. neg_ℤ B ≤ℤ x) p s.above, rw (← p, ← q) s.ordered, rw (← q) s.below))

pub span_from-none : (lo hi : ℤ) → ¬ (AreEnds lo hi) → span_from lo hi ≡ Contradiction
unfolding span_from
span_from-none lo hi f = by (ends_or_not lo hi)
  where
    by : (d : AreEnds lo hi ⊎ ¬ (AreEnds lo hi)) → span_if lo hi d ≡ Contradiction
    by (inl e) = absurd (f e)
    by (inr f) = refl

pub elements_from-bits : (bits : ℕ) (s : sets.Elements) → s.bits ≡ bits → elements_from bits ≡ Set s
unfolding elements_from
elements_from-bits bits s p = by (some_or_not bits)
  where
    by : (d : AreSome bits ⊎ ¬ (AreSome bits)) → elements_if bits d ≡ Set s
    by (inl e) = ap Set (same_elements (record { bits = bits; some = e.0; fits = e.1 }) s (sym p))
    by (inr f) = absurd (f (rw (← p) s.some, rw (← p) s.fits))

pub elements_from-none : (bits : ℕ) → ¬ (AreSome bits) → elements_from bits ≡ Contradiction
unfolding elements_from
elements_from-none bits f = by (some_or_not bits)
  where
    by : (d : AreSome bits ⊎ ¬ (AreSome bits)) → elements_if bits d ≡ Contradiction
    by (inl e) = absurd (f e)
    by (inr f) = refl

pub span_is : (lo hi : ℤ) (s : spans.Span) → s.lo ≡ lo → s.hi ≡ hi → Span s ≡ span_from lo hi
span_is lo hi s p q = sym (span_from-ends lo hi s p q)

pub elements_are : (bits : ℕ) (s : sets.Elements) → s.bits ≡ bits → Set s ≡ elements_from bits
elements_are bits s p = sym (elements_from-bits bits s p)
