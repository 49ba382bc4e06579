-- What cutting off gives, from the ends that the code computes.
use Rattle.std.proofs.Common.{◌≡◌, ◌∙◌, sym, arith, ℤ, neg_ℤ, ◌<ℤ◌}
use Rattle.std.specs.Int.{int_max, int_min}
use Rattle.std.proofs.lemmas.Int.{ints}
use Rattle.prop_lattice.specs.declared.span.TheConstants.{B}
use Rattle.prop_lattice.specs.Ends.{span_from}
use Rattle.prop_lattice.proofs.EndLemmas.{span_from-none}
use Rattle.prop_lattice.specs.declared.info.Info.{Info}
use Rattle.prop_lattice.specs.declared.info.Info.TheVariants.{Contradiction}
use Rattle.prop_intervals.specs.Clip.{clip}

pub clip_from : (lo hi l h : ℤ) (r : Info) → r ≡ span_from l h → l ≡ int_max lo (neg_ℤ B) → h ≡ int_min hi B
    → r ≡ clip lo hi
unfolding clip
clip_from lo hi l h r e p q = e ∙ (λ t. span_from (p t) (q t))

pub clip_none : (lo hi : ℤ) → int_min hi B <ℤ int_max lo (neg_ℤ B) → Contradiction ≡ clip lo hi
unfolding clip
clip_none lo hi l = sym (span_from-none _ _ (λ e. omega (arith, ints)))
