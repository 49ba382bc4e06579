-- What is known of the narrowest information that holds some numbers.
use Rattle.std.specs.Prelude.{◌≡◌, ℤ, neg_ℤ, ◌≤ℤ◌, ◌⊎◌}
use Rattle.std.proofs.Common.{inl, inr, arith, sym, subst}
use Rattle.std.specs.Int.{int_max, int_min}
use Rattle.std.proofs.lemmas.Int.{ints, clamps}
use Rattle.prop_lattice.specs.declared.span.TheConstants.{B}
use Rattle.prop_lattice.specs.Ends.{AreEnds, ends_or_not, span_from}
use Rattle.prop_lattice.specs.inner.Ends.{span_if}
use Rattle.prop_lattice.proofs.EndLemmas.{span_from-none}
use Rattle.prop_lattice.specs.Order.{Below}
use Rattle.prop_lattice.specs.laws.OrderLaws.{to_top}
use Rattle.prop_lattice.specs.declared.info.Info.{Info}
use Rattle.prop_lattice.specs.declared.info.Info.TheVariants.{Nothing, Span, Set, Sym}
use Rattle.prop_lattice.specs.declared.info.Info.TheVariants.{Contradiction}
use Rattle.prop_intervals.specs.Clip.{clip}
use Rattle.prop_intervals.specs.Narrowest.{IsNarrowest}

-- of fewer numbers the narrowest is no lower
pub narrowest_below : (P Q : ℤ → Type 0) (a b : Info) → IsNarrowest P a → IsNarrowest Q b
    → ((v : ℤ) → Q v → P v) → Below a b
narrowest_below P Q a b p q h = q.highest a (λ v x. p.holds v (h v x))

-- the same numbers have the same narrowest
pub narrowest_same : (P Q : ℤ → Type 0) (a : Info) → IsNarrowest P a → ((v : ℤ) → Q v → P v)
    → ((v : ℤ) → P v → Q v) → IsNarrowest Q a
narrowest_same P Q a p h k = record {
  holds = λ v x. p.holds v (h v x);
  highest = λ s f. p.highest s (λ v x. f v (k v x));
}

-- a span whose ends are among the numbers
pub span_narrowest : (P : ℤ → Type 0) (lo hi : ℤ) → neg_ℤ B ≤ℤ lo → hi ≤ℤ B → P lo → P hi
    → ((v : ℤ) → P v → (lo ≤ℤ v) × (v ≤ℤ hi)) → IsNarrowest P (span_from lo hi)
unfolding span_from
span_narrowest P lo hi above below first last between = by (ends_or_not lo hi)
  where
    by : (d : AreEnds lo hi ⊎ ¬ (AreEnds lo hi)) → IsNarrowest P (span_if lo hi d)
    by (inl e) = record {
      holds = between;
      highest = elim [
        | Nothing ↦ λ h. tt
        | Span s ↦ λ h. ((h lo first).0, (h hi last).1)
        | Set s ↦ λ h. absurd (h lo first)
        | Sym n ↦ λ h. absurd (h lo first)
        | Contradiction ↦ λ h. absurd (h lo first)
      ];
    }
    by (inr f) = absurd (f (above, (between hi last).0, below))

-- no numbers
pub none_narrowest : (P : ℤ → Type 0) (lo hi : ℤ) → ¬ (AreEnds lo hi) → ((v : ℤ) → ¬ (P v))
    → IsNarrowest P (span_from lo hi)
none_narrowest P lo hi f none =
    subst (IsNarrowest P) (sym (span_from-none lo hi f))
    (record { holds = λ v x. absurd (none v x); highest = λ s h. to_top s })

-- a span that needs no cutting off
pub clip_narrowest : (P : ℤ → Type 0) (lo hi : ℤ) → neg_ℤ B ≤ℤ lo → hi ≤ℤ B → P lo → P hi
    → ((v : ℤ) → P v → (lo ≤ℤ v) × (v ≤ℤ hi)) → IsNarrowest P (clip lo hi)
unfolding clip
clip_narrowest P lo hi above below first last between =
    subst (IsNarrowest P) (λ i. span_from (max_same i) (min_same i))
    (span_narrowest P lo hi above below first last between)
  where
    max_same : lo ≡ int_max lo (neg_ℤ B)
    max_same = omega (arith, ints, clamps)

    min_same : hi ≡ int_min hi B
    min_same = omega (arith, ints, clamps)
