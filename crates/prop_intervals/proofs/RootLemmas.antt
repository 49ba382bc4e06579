-- The roots and ends that the code computes.
use Rattle.std.specs.Prelude.{◌≡◌, Bool, true, false, ℤ, pos, ◌+ℤ◌, ◌-ℤ◌, ◌≤ℤ◌, ◌<ℤ◌, int_le, unsigned_abs}
use Rattle.std.specs.Prelude.{if◌then◌else◌}
use Rattle.std.specs.Int.{IsIsqrt}
use Rattle.std.proofs.Common.{arith, refl, ap, ◌∙◌, zero, suc, negsuc}
use Rattle.std.proofs.lemmas.Int.{ints}
use Rattle.prop_intervals.specs.inner.Roots.{root_floor, least_root, greatest_root}
use Rattle.prop_intervals.specs.laws.RootLaws.{root_floor-is, root_floor-parts}

pub greatest_root_is : (m z r : ℤ) → pos 0 ≤ℤ m → z ≡ m → IsIsqrt z r → r ≡ pos (greatest_root m)
unfolding greatest_root
greatest_root_is (pos k) z r p e (n, f, h, g) = f ∙ ap pos (root_floor-is k n (rw (← size) h) (rw (← size) g))
  where
    size : unsigned_abs z ≡ k
    size = ap unsigned_abs e
greatest_root_is (negsuc k) z r p e s = absurd (omega (arith, ints))

pub least_root_is : (m z r : ℤ) → pos 0 <ℤ m → z ≡ m -ℤ pos 1 → IsIsqrt z r → r +ℤ pos 1 ≡ pos (least_root m)
unfolding least_root
least_root_is (pos zero) z r p e s = absurd (omega (arith, ints))
least_root_is (pos (suc k)) z r p e (n, f, h, g) =
    let root : n ≡ root_floor k = root_floor-is k n (rw (← size) h) (rw (← size) g) in
    omega (arith, ints)
  where
    size : unsigned_abs z ≡ k
    size = omega (arith, ints)
least_root_is (negsuc k) z r p e s = absurd (omega (arith, ints))

pub least_root_small : (m : ℤ) → pos 0 <ℤ m → pos (least_root m) ≤ℤ m
unfolding least_root
least_root_small (pos zero) p = absurd (omega (arith, ints))
least_root_small (pos (suc k)) p = omega (arith, ints, (root_floor-parts k).2)
least_root_small (negsuc k) p = absurd (omega (arith, ints))

pub least_root_none : (m : ℤ) → m ≤ℤ pos 0 → pos 0 ≡ pos (least_root m)
unfolding least_root
least_root_none (pos zero) p = refl
least_root_none (pos (suc k)) p = absurd (omega (arith, ints))
least_root_none (negsuc k) p = refl

-- ---- one of two ends

pub chosen : (a b c d x : ℤ) → a ≤ℤ b → x ≡ c → x ≡ (if int_le a b then c else d)
chosen a b c d x h e = by (int_le a b) refl
  where
    by : (t : Bool) → int_le a b ≡ t → x ≡ (if t then c else d)
    by true f = e
    by false f = absurd (omega (arith, ints))

pub not_chosen : (a b c d x : ℤ) → b <ℤ a → x ≡ d → x ≡ (if int_le a b then c else d)
not_chosen a b c d x h e = by (int_le a b) refl
  where
    by : (t : Bool) → int_le a b ≡ t → x ≡ (if t then c else d)
    by true f = absurd (omega (arith, ints))
    by false f = e
