-- Quotients are rounded down.
use Rattle.std.proofs.Common.{zero, suc, subst, inl, inr, arith}
use Rattle.std.specs.Prelude.{ℕ, ℤ, pos, negsuc, neg_ℤ, ◌+ℤ◌, ◌*ℤ◌, ◌≤ℤ◌, ◌<ℤ◌}
use Rattle.std.specs.Int.{int_div_euclid}
use Rattle.std.proofs.lemmas.Int.{ints}
use Rattle.std.proofs.lemmas.Option.{none-some, same_Some}
use Rattle.prop_terms.specs.Meaning.{IsRoundedDown, QuotientsAreRoundedDown}

above : (x : ℤ) (n : ℕ) → ((int_div_euclid x (pos (suc n)) *ℤ pos (suc n)) ≤ℤ x)
    × (x <ℤ ((int_div_euclid x (pos (suc n)) *ℤ pos (suc n)) +ℤ pos (suc n)))
above (pos a) n = (omega (arith, ints), omega (arith, ints))
above (negsuc a) n = (omega (arith, ints), omega (arith, ints))

below : (x : ℤ) (n : ℕ) → (x ≤ℤ (int_div_euclid (neg_ℤ x) (pos (suc n)) *ℤ negsuc n))
    × (((int_div_euclid (neg_ℤ x) (pos (suc n)) *ℤ negsuc n) +ℤ negsuc n) <ℤ x)
below (pos zero) n = (omega (arith, ints), omega (arith, ints))
below (pos (suc a)) n = (omega (arith, ints), omega (arith, ints))
below (negsuc a) n = (omega (arith, ints), omega (arith, ints))

pub rounded_down : QuotientsAreRoundedDown
rounded_down x (pos zero) q e = absurd (none-some q e)
rounded_down x (pos (suc n)) q e =
    let h = above x n in
    subst (IsRoundedDown x (pos (suc n))) (same_Some _ _ e) (inl (omega (arith, ints), h.0, h.1))
rounded_down x (negsuc n) q e =
    let h = below x n in subst (IsRoundedDown x (negsuc n)) (same_Some _ _ e) (inr (omega (arith, ints), h.0, h.1))
