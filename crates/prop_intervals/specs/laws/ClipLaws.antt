-- What is known of spans that are cut off at the largest magnitude.
use Rattle.std.specs.Prelude.{◌≡◌, ℕ, ℤ, neg_ℤ, ◌≤ℤ◌, ◌⊎◌}
use Rattle.std.proofs.Common.{inl, inr, arith, ◌∙◌}
use Rattle.std.specs.Int.{int_max, int_min}
use Rattle.std.proofs.lemmas.Int.{ints, clamps}
use Rattle.prop_lattice.specs.declared.span.TheConstants.{B}
use Rattle.prop_lattice.specs.Ends.{AreEnds, ends_or_not, span_from}
use Rattle.prop_lattice.specs.inner.Ends.{span_if}
use Rattle.prop_lattice.specs.Order.{Below}
use Rattle.prop_lattice.specs.Points.{Number, Holds}
use Rattle.prop_lattice.specs.Rank.{IsOf}
use Rattle.prop_lattice.specs.declared.info.Info.{Info}
use Rattle.prop_lattice.specs.declared.info.Kind.TheVariants as kinds
use Rattle.prop_intervals.specs.Clip.{clip}

-- ---- spans from their ends

-- closer ends say more
pub span_from_below : (lo hi lo' hi' : ℤ) → lo ≤ℤ lo' → hi' ≤ℤ hi → neg_ℤ B ≤ℤ lo → hi ≤ℤ B
    → Below (span_from lo hi) (span_from lo' hi')
unfolding span_from
span_from_below lo hi lo' hi' p q above below = by (ends_or_not lo hi) (ends_or_not lo' hi')
  where
    by : (d : AreEnds lo hi ⊎ ¬ (AreEnds lo hi)) (e : AreEnds lo' hi' ⊎ ¬ (AreEnds lo' hi'))
        → Below (span_if lo hi d) (span_if lo' hi' e)
    by (inl d) (inl e) = (p, q)
    by (inl d) (inr f) = tt
    by (inr f) (inl e) = absurd (f (above, omega (arith, ints), below))
    by (inr f) (inr g) = tt

pub span_from_of_span : (size : ℕ) (lo hi : ℤ) → IsOf kinds.Span size (span_from lo hi)
unfolding span_from
span_from_of_span size lo hi = by (ends_or_not lo hi)
  where
    by : (d : AreEnds lo hi ⊎ ¬ (AreEnds lo hi)) → IsOf kinds.Span size (span_if lo hi d)
    by (inl d) = tt
    by (inr f) = tt

pub span_from_holds : (lo hi v : ℤ) → lo ≤ℤ v → v ≤ℤ hi → neg_ℤ B ≤ℤ lo → hi ≤ℤ B
    → Holds (span_from lo hi) (Number v)
unfolding span_from
span_from_holds lo hi v p q above below = by (ends_or_not lo hi)
  where
    by : (d : AreEnds lo hi ⊎ ¬ (AreEnds lo hi)) → Holds (span_if lo hi d) (Number v)
    by (inl d) = (p, q)
    by (inr f) = absurd (f (above, omega (arith, ints), below))

-- ---- clipping

pub clip_is : (lo hi lo' hi' : ℤ) (r : Info) → r ≡ clip lo hi → lo ≡ lo' → hi ≡ hi'
    → r ≡ clip lo' hi'
clip_is lo hi lo' hi' r e p q = e ∙ (λ i. clip (p i) (q i))

pub clip_below : (lo hi lo' hi' : ℤ) → lo ≤ℤ lo' → hi' ≤ℤ hi → Below (clip lo hi) (clip lo' hi')
unfolding clip
clip_below lo hi lo' hi' p q =
    span_from_below _ _ _ _ (max_le lo lo' (neg_ℤ B) p) (min_le hi' hi B q)
    (omega (arith, ints, clamps)) (omega (arith, ints, clamps))
  where
    max_le : (a b c : ℤ) → a ≤ℤ b → int_max a c ≤ℤ int_max b c
    max_le a b c h = omega (arith, ints, clamps)

    min_le : (a b c : ℤ) → a ≤ℤ b → int_min a c ≤ℤ int_min b c
    min_le a b c h = omega (arith, ints, clamps)

pub clip_of_span : (size : ℕ) (lo hi : ℤ) → IsOf kinds.Span size (clip lo hi)
unfolding clip
clip_of_span size lo hi = span_from_of_span size _ _

pub clip_holds : (lo hi v : ℤ) → lo ≤ℤ v → v ≤ℤ hi → neg_ℤ B ≤ℤ v → v ≤ℤ B
    → Holds (clip lo hi) (Number v)
unfolding clip
clip_holds lo hi v p q l h = span_from_holds (int_max lo (neg_ℤ B)) (int_min hi B) v
    (omega (arith, ints, clamps)) (omega (arith, ints, clamps)) (omega (arith, ints, clamps))
    (omega (arith, ints, clamps))
