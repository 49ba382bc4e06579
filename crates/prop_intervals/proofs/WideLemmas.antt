-- How large products and quotients are.
use lib.IntN.{*ℤ_comm}
use Rattle.std.proofs.Common.{refl, ◌*◌, ◌<◌, ◌+◌, ◌-ℤ◌, ◌≡◌, ◌∙◌, ℕ, ◌^◌, ◌≤◌, ℤ, pos, neg_ℤ, ◌*ℤ◌, ◌≤ℤ◌, ◌<ℤ◌}
use Rattle.std.proofs.Common.{FitsSigned, w64, arith, unsigned_abs, to_z, of_z}
use Rattle.std.specs.Int.{w128}
use lib.Signed.{mag}
use Rattle.std.specs.Prelude.{Bool, true, false, int_lt, if◌then◌else◌}
use Rattle.prop_intervals.specs.inner.Parts.{least_factor}
use Rattle.std.specs.Int.{int_min, int_max}
use Rattle.prop_lattice.specs.declared.span.TheConstants.{B}
use Rattle.prop_lattice.specs.declared.span.Span as spans
use Rattle.std.proofs.lemmas.Int.{ints, clamps, unsigned_abs-mul, to_z-of_z}
use Rattle.std.proofs.lemmas.Nat.{mul-le}
use Rattle.prop_intervals.specs.Quotients.{int_div_ceil}
use Rattle.prop_intervals.specs.inner.Parts.{int_div_floor}
use Rattle.prop_intervals.specs.laws.QuotientLaws.{le-floor, floor-lt, product-le, product-ge}

-- a product of two numbers of these sizes
pub product_of_sizes : (a b : ℤ) (m n : ℕ) → unsigned_abs a ≤ m → unsigned_abs b ≤ n
    → (neg_ℤ (pos (m * n)) ≤ℤ (a *ℤ b)) × ((a *ℤ b) ≤ℤ pos (m * n))
product_of_sizes a b m n h k =
    let size : unsigned_abs (a *ℤ b) ≤ m * n =
    omega (arith, unsigned_abs-mul a b, mul-le (unsigned_abs a) (unsigned_abs b) m n h k) in
    between (a *ℤ b) (m * n) size
  where
    between : (c : ℤ) (m : ℕ) → unsigned_abs c ≤ m → (neg_ℤ (pos m) ≤ℤ c) × (c ≤ℤ pos m)
    between c m h = (omega (arith, ints), omega (arith, ints))

-- a product of two numbers of 64 bits
pub product_within : (a b : ℤ) → FitsSigned w64 a → FitsSigned w64 b
    → (neg_ℤ (pos (2 ^ 126)) ≤ℤ (a *ℤ b)) × ((a *ℤ b) ≤ℤ pos (2 ^ 126))
product_within a b f g = product_of_sizes a b (2 ^ 63) (2 ^ 63) (size_of a f) (size_of b g)
  where
    size_of : (a : ℤ) → FitsSigned w64 a → unsigned_abs a ≤ 2 ^ 63
    size_of a f = omega (arith, ints)

-- the same of the bits in which it comes back
pub product_least : (a b x y : ℤ) → FitsSigned w64 a → FitsSigned w64 b → x ≡ a → y ≡ b
    → neg_ℤ (pos (2 ^ 126)) ≤ℤ to_z w128 (of_z w128 (x *ℤ y))
product_least a b x y f g p q = rw (p, q) (small (a *ℤ b) (product_within a b f g).0 (product_within a b f g).1)
  where
    small : (z : ℤ) → neg_ℤ (pos (2 ^ 126)) ≤ℤ z → z ≤ℤ pos (2 ^ 126) → neg_ℤ (pos (2 ^ 126)) ≤ℤ to_z w128 (of_z w128 z)
    small z h k = omega (arith, ints)

pub product_greatest : (a b x y : ℤ) → FitsSigned w64 a → FitsSigned w64 b → x ≡ a → y ≡ b
    → to_z w128 (of_z w128 (x *ℤ y)) ≤ℤ pos (2 ^ 126)
product_greatest a b x y f g p q = rw (p, q) (small (a *ℤ b) (product_within a b f g).0 (product_within a b f g).1)
  where
    small : (z : ℤ) → neg_ℤ (pos (2 ^ 126)) ≤ℤ z → z ≤ℤ pos (2 ^ 126) → to_z w128 (of_z w128 z) ≤ℤ pos (2 ^ 126)
    small z h k = omega (arith, ints)

-- a quotient is no larger than what is divided
pub floor_within : (m : ℕ) (a d : ℤ) → pos 0 <ℤ d → neg_ℤ (pos m) ≤ℤ a → a ≤ℤ pos m
    → (neg_ℤ (pos m) ≤ℤ int_div_floor a d) × (int_div_floor a d ≤ℤ pos m)
floor_within m a d p h k = (
  le-floor a d (neg_ℤ (pos m)) p (rw (*ℤ_comm (neg_ℤ (pos m)) d)
      (under (d *ℤ neg_ℤ (pos m)) (pos 1 *ℤ neg_ℤ (pos m)) m a (one_times (neg_ℤ (pos m)))
      (product-ge (pos 1) d (neg_ℤ (pos m)) (omega (arith, ints)) (omega (arith, ints))) h)),
  at_most (int_div_floor a d) m (floor-lt a d (pos (m + 1)) p
      (rw (*ℤ_comm (pos (m + 1)) d) (over (d *ℤ pos (m + 1)) (pos 1 *ℤ pos (m + 1)) m a (one_times (pos (m + 1)))
      (product-le (pos 1) d (pos (m + 1)) (omega (arith, ints)) (omega (arith, ints))) k))),
)
  where
    one_times : (z : ℤ) → (pos 1 *ℤ z) ≡ z
    one_times z = omega (arith, ints)

    under : (s t : ℤ) (m : ℕ) (a : ℤ) → t ≡ neg_ℤ (pos m) → s ≤ℤ t → neg_ℤ (pos m) ≤ℤ a → s ≤ℤ a
    under s t m a e h k = omega (arith, ints)

    over : (s t : ℤ) (m : ℕ) (a : ℤ) → t ≡ pos (m + 1) → t ≤ℤ s → a ≤ℤ pos m → a <ℤ s
    over s t m a e h k = omega (arith, ints)

    at_most : (q : ℤ) (m : ℕ) → q <ℤ pos (m + 1) → q ≤ℤ pos m
    at_most q m h = omega (arith, ints)

-- the quotient of an opposite, where the opposite and the divisor come back from their bits
pub opposite_quotient : (a d n e q : ℤ) → pos 0 <ℤ d → neg_ℤ (pos (2 ^ 126)) ≤ℤ a → a ≤ℤ pos (2 ^ 126) → n ≡ neg_ℤ a
    → e ≡ d → q ≡ int_div_floor n e → (q ≡ neg_ℤ (int_div_ceil a d)) × (neg_ℤ (pos (2 ^ 126)) ≤ℤ q)
    × (q ≤ℤ pos (2 ^ 126))
unfolding int_div_ceil
opposite_quotient a d n e q p h k i j f =
    let is : q ≡ int_div_floor (neg_ℤ a) d = f ∙ (λ t. int_div_floor (i t) (j t)) in
    let within : (neg_ℤ (pos (2 ^ 126)) ≤ℤ int_div_floor (neg_ℤ a) d) × (int_div_floor (neg_ℤ a) d ≤ℤ pos (2 ^ 126)) =
    floor_within (2 ^ 126) (neg_ℤ a) d p (omega (arith, ints)) (omega (arith, ints)) in
    (is ∙ twice (int_div_floor (neg_ℤ a) d), rw is within.0, rw is within.1)
  where
    twice : (z : ℤ) → z ≡ neg_ℤ (neg_ℤ z)
    twice z = omega (arith, ints)

-- ---- numbers that come back from their bits

pub back_128 : (z a : ℤ) → mag z < 2 ^ 127 → z ≡ a → to_z w128 (of_z w128 z) ≡ a
back_128 z a f e = to_z-of_z w128 z (record { sfits = f }) ∙ e

pub back_64 : (z a : ℤ) → FitsSigned w64 a → z ≡ a → to_z w64 (of_z w64 z) ≡ a
back_64 z a f e = (λ i. to_z w64 (of_z w64 (e i))) ∙ to_z-of_z w64 a f

pub product_of_ends : (a b u v r : ℤ) → r ≡ to_z w64 (of_z w64 a) *ℤ to_z w64 (of_z w64 b) → a ≡ u → b ≡ v
    → FitsSigned w64 u → FitsSigned w64 v → r ≡ u *ℤ v
product_of_ends a b u v r e p q f g = e ∙ (λ i. back_64 a u f p i *ℤ back_64 b v g q i)

pub least_of_back : (p q a b r : ℤ) → mag p < 2 ^ 127 → mag q < 2 ^ 127
    → r ≡ int_min (to_z w128 (of_z w128 p)) (to_z w128 (of_z w128 q)) → p ≡ a → q ≡ b → r ≡ int_min a b
least_of_back p q a b r f g e i j = e ∙ (λ t. int_min (back_128 p a f i t) (back_128 q b g j t))

pub greatest_of_back : (p q a b r : ℤ) → mag p < 2 ^ 127 → mag q < 2 ^ 127
    → r ≡ int_max (to_z w128 (of_z w128 p)) (to_z w128 (of_z w128 q)) → p ≡ a → q ≡ b → r ≡ int_max a b
greatest_of_back p q a b r f g e i j = e ∙ (λ t. int_max (back_128 p a f i t) (back_128 q b g j t))

-- the ends of a span fit
pub lo_fits : (s : spans.Span) → FitsSigned w64 s.lo
lo_fits s = omega (arith, ints)

pub hi_fits : (s : spans.Span) → FitsSigned w64 s.hi
hi_fits s = omega (arith, ints)

pub greatest_under : (p q r m : ℤ) → mag p < 2 ^ 127 → mag q < 2 ^ 127
    → r ≡ int_max (to_z w128 (of_z w128 p)) (to_z w128 (of_z w128 q)) → p ≤ℤ m → q ≤ℤ m → r ≤ℤ m
greatest_under p q r m f g e i j = rw (greatest_of_back p q p q r f g e refl refl) (omega (arith, ints, clamps))

-- the product of a scale and a number that is at most one unit out of range
pub scaled_parts : (a b k v p : ℤ) → p ≡ to_z w64 (of_z w64 a) *ℤ to_z w64 (of_z w64 b) → a ≡ k → b ≡ v → pos 1 ≤ℤ k
    → k ≤ℤ pos 1_000_000_000 → neg_ℤ (pos 1_000_000_000_000_000_001) ≤ℤ v → v ≤ℤ pos 1_000_000_000_000_000_001
    → (p ≡ k *ℤ v) × (neg_ℤ (pos (2 ^ 90)) ≤ℤ p) × (p ≤ℤ pos (2 ^ 90))
scaled_parts a b k v p e q r k_least k_greatest v_least v_greatest =
    let is : p ≡ k *ℤ v = product_of_ends a b k v p e q r (omega (arith, ints)) (omega (arith, ints)) in
    let within : (neg_ℤ (pos (2 ^ 90)) ≤ℤ (k *ℤ v)) × ((k *ℤ v) ≤ℤ pos (2 ^ 90)) =
    product_of_sizes k v (2 ^ 30) (2 ^ 60) (omega (arith, ints)) (omega (arith, ints)) in
    (is, rw is within.0, rw is within.1)

-- an opposite, which comes back too
pub opposite_128 : (z a : ℤ) → neg_ℤ (pos (2 ^ 120)) ≤ℤ z → z ≤ℤ pos (2 ^ 120) → z ≡ a
    → to_z w128 (of_z w128 (pos 0 -ℤ to_z w128 (of_z w128 z))) ≡ neg_ℤ a
opposite_128 z a h k e = omega (arith, ints)

pub opposite_64 : (z a : ℤ) → z ≡ a → neg_ℤ B ≤ℤ a → a ≤ℤ B
    → to_z w64 (of_z w64 (pos 0 -ℤ to_z w64 (of_z w64 z))) ≡ neg_ℤ a
opposite_64 z a e h k = omega (arith, ints)

-- ---- the cases of a least factor

pub factor_above : (a lo hi : ℤ) → pos 0 <ℤ a → int_div_ceil a hi ≡ least_factor a lo hi
factor_above a lo hi h = by (int_lt (pos 0) a) refl
  where
    by : (t : Bool) → int_lt (pos 0) a ≡ t → int_div_ceil a hi ≡ (if t then int_div_ceil a hi else int_div_ceil a lo)
    by true e = refl
    by false e = absurd (omega (arith, ints))

pub factor_not_above : (a lo hi : ℤ) → a ≤ℤ pos 0 → int_div_ceil a lo ≡ least_factor a lo hi
factor_not_above a lo hi h = by (int_lt (pos 0) a) refl
  where
    by : (t : Bool) → int_lt (pos 0) a ≡ t → int_div_ceil a lo ≡ (if t then int_div_ceil a hi else int_div_ceil a lo)
    by true e = absurd (omega (arith, ints))
    by false e = refl
