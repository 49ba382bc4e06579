-- Orders of products and of rounded quotients.
use Rattle.std.specs.Prelude.{◌≡◌, ◌*◌, ℤ, pos, neg_ℤ, ◌+ℤ◌, ◌*ℤ◌, ◌≤ℤ◌, ◌<ℤ◌}
use Rattle.std.specs.Int.{int_max, int_min}
use Rattle.std.proofs.Common.{arith, ap, negsuc, zero, suc, mul-le-mul_right}
use Rattle.std.proofs.lemmas.Int.{ints, clamps, by_lt_z}
use lib.IntN.{*ℤ_comm}
use borrow.Author.Differences.{up, down, le_out, sum_is_lem, neg_is, product_is, same_in}
use borrow.Author.Differences.{at_most_in}
use Rattle.prop_intervals.specs.Quotients.{int_div_ceil}
use Rattle.prop_intervals.specs.inner.Parts.{int_div_floor}

-- ---- products

-- a difference times a number
pub product-add : (a b c : ℤ) → (a +ℤ b) *ℤ c ≡ (a *ℤ c) +ℤ (b *ℤ c)
product-add a b c =
    let s = sum_is_lem a b in
    same_in _ _ (omega (
      arith,
      product_is (a +ℤ b) c,
      sum_is_lem (a *ℤ c) (b *ℤ c),
      product_is a c,
      product_is b c,
      ap (λ t. t * up c) s,
      ap (λ t. t * down c) s,
    ))

-- products with a factor that is not negative keep the order
pub product-le : (a b c : ℤ) → a ≤ℤ b → pos 0 ≤ℤ c → (a *ℤ c) ≤ℤ (b *ℤ c)
product-le a b (pos n) h p = at_most_in _ _
    (omega (arith, product_is a (pos n), product_is b (pos n), mul-le-mul_right n (le_out a b h)))
product-le a b (negsuc n) h p = absurd (omega (arith, ints))

-- products with a factor that is not positive turn it round
pub product-ge : (a b c : ℤ) → a ≤ℤ b → c ≤ℤ pos 0 → (b *ℤ c) ≤ℤ (a *ℤ c)
product-ge a b (pos zero) h p =
    at_most_in _ _ (omega (arith, product_is a (pos 0), product_is b (pos 0)))
product-ge a b (pos (suc n)) h p = absurd (omega (arith, ints))
product-ge a b (negsuc n) h p =
    at_most_in _ _ (omega (
      arith,
      product_is a (negsuc n),
      product_is b (negsuc n),
      mul-le-mul_right (suc n) (le_out a b h),
    ))

-- a product lies between those with two bounds of a factor
pub product-between : (u c d v : ℤ) → c ≤ℤ v → v ≤ℤ d
    → (int_min (u *ℤ c) (u *ℤ d) ≤ℤ (u *ℤ v)) × ((u *ℤ v) ≤ℤ int_max (u *ℤ c) (u *ℤ d))
product-between u c d v p q =
    let e = *ℤ_comm u c in
    let f = *ℤ_comm u d in
    let g = *ℤ_comm u v in
    rw (e, f, g) (by_lt_z u (pos 0)
    (λ l. within_falling _ _ _ (product-ge c v u p (omega (arith, ints)))
    (product-ge v d u q (omega (arith, ints))))
    (λ l. within_rising _ _ _ (product-le c v u p l) (product-le v d u q l)))
  where
    within_falling : (s t r : ℤ) → t ≤ℤ s → r ≤ℤ t → (int_min s r ≤ℤ t) × (t ≤ℤ int_max s r)
    within_falling s t r h k = (omega (arith, ints, clamps), omega (arith, ints, clamps))

    within_rising : (s t r : ℤ) → s ≤ℤ t → t ≤ℤ r → (int_min s r ≤ℤ t) × (t ≤ℤ int_max s r)
    within_rising s t r h k = (omega (arith, ints, clamps), omega (arith, ints, clamps))

-- ---- quotients

-- a quotient that rounds down, and what is left of it
pub floor-parts : (a d : ℤ) → pos 0 <ℤ d
    → ((int_div_floor a d *ℤ d) ≤ℤ a) × (a <ℤ ((int_div_floor a d *ℤ d) +ℤ d))
floor-parts (pos a) (pos zero) p = absurd (omega (arith, ints))
floor-parts (pos a) (pos (suc n)) p = (omega (arith, ints), omega (arith, ints))
floor-parts (negsuc a) (pos zero) p = absurd (omega (arith, ints))
floor-parts (negsuc a) (pos (suc n)) p = (omega (arith, ints), omega (arith, ints))
floor-parts a (negsuc n) p = absurd (omega (arith, ints))

-- it is at least each number that times the divisor is at most a
pub le-floor : (a d v : ℤ) → pos 0 <ℤ d → (v *ℤ d) ≤ℤ a → v ≤ℤ int_div_floor a d
le-floor a d v p h = by_lt_z (int_div_floor a d) v (λ l.
    let more = product-le (int_div_floor a d +ℤ pos 1) v d (omega (arith, ints))
    (omega (arith, ints)) in
    absurd (apart (int_div_floor a d *ℤ d) ((int_div_floor a d +ℤ pos 1) *ℤ d) (v *ℤ d) (pos 1 *ℤ d)
    a d (floor-parts a d p).1 (product-add (int_div_floor a d) (pos 1) d) (one-product d) more
    h)) (λ l. l)
  where
    one-product : (d : ℤ) → (pos 1 *ℤ d) ≡ d
    one-product d = same_in _ _ (omega (arith, product_is (pos 1) d))

    apart : (q s t e a d : ℤ) → a <ℤ (q +ℤ d) → s ≡ q +ℤ e → e ≡ d → s ≤ℤ t → t ≤ℤ a → ⊥
    apart q s t e a d h i j k l = omega (arith, ints)

-- and below each number that times the divisor is above a
pub floor-lt : (a d v : ℤ) → pos 0 <ℤ d → a <ℤ (v *ℤ d) → int_div_floor a d <ℤ v
floor-lt a d v p h = by_lt_z (int_div_floor a d) v (λ l. l)
    (λ l. absurd (apart _ _ _ (product-le v (int_div_floor a d) d l (omega (arith, ints)))
    (floor-parts a d p).0 h))
  where
    apart : (s t a : ℤ) → s ≤ℤ t → t ≤ℤ a → a <ℤ s → ⊥
    apart s t a h i j = omega (arith, ints)

-- it grows with what is divided
pub floor-below : (a b d : ℤ) → pos 0 <ℤ d → a ≤ℤ b → int_div_floor a d ≤ℤ int_div_floor b d
floor-below a b d p h = le-floor b d (int_div_floor a d) p (through _ a b (floor-parts a d p).0 h)
  where
    through : (s a b : ℤ) → s ≤ℤ a → a ≤ℤ b → s ≤ℤ b
    through s a b h i = omega (arith, ints)

-- an opposite times a number
pub neg-product : (v d : ℤ) → (neg_ℤ v *ℤ d) ≡ neg_ℤ (v *ℤ d)
neg-product v d = same_in _ _ (omega (
  arith,
  product_is (neg_ℤ v) d,
  product_is v d,
  neg_is v,
  neg_is (v *ℤ d),
  ap (λ t. t * up d) (neg_is v).0,
  ap (λ t. t * down d) (neg_is v).0,
  ap (λ t. t * up d) (neg_is v).1,
  ap (λ t. t * down d) (neg_is v).1,
))

-- a quotient that rounds up, and what is left of it
pub ceil-parts : (a d : ℤ) → pos 0 <ℤ d
    → (a ≤ℤ (int_div_ceil a d *ℤ d)) × ((int_div_ceil a d *ℤ d) <ℤ (a +ℤ d))
unfolding int_div_ceil
ceil-parts a d p =
    let floor = floor-parts (neg_ℤ a) d p in
    turned (int_div_floor (neg_ℤ a) d *ℤ d) (int_div_ceil a d *ℤ d) a d
    (neg-product (int_div_floor (neg_ℤ a) d) d) floor.0 floor.1
  where
    turned : (s t a d : ℤ) → t ≡ neg_ℤ s → s ≤ℤ neg_ℤ a → neg_ℤ a <ℤ (s +ℤ d)
        → (a ≤ℤ t) × (t <ℤ (a +ℤ d))
    turned s t a d e h i = (omega (arith, ints), omega (arith, ints))

-- it is at most each number that times the divisor is at least a
pub ceil-le : (a d v : ℤ) → pos 0 <ℤ d → a ≤ℤ (v *ℤ d) → int_div_ceil a d ≤ℤ v
unfolding int_div_ceil
ceil-le a d v p h = turned (int_div_floor (neg_ℤ a) d) v
    (le-floor (neg_ℤ a) d (neg_ℤ v) p (opposite (neg_ℤ v *ℤ d) (v *ℤ d) a (neg-product v d) h))
  where
    turned : (q v : ℤ) → neg_ℤ v ≤ℤ q → neg_ℤ q ≤ℤ v
    turned q v h = omega (arith, ints)

    opposite : (s t a : ℤ) → s ≡ neg_ℤ t → a ≤ℤ t → s ≤ℤ neg_ℤ a
    opposite s t a e h = omega (arith, ints)

-- and above each number that times the divisor is below a
pub lt-ceil : (a d v : ℤ) → pos 0 <ℤ d → (v *ℤ d) <ℤ a → v <ℤ int_div_ceil a d
lt-ceil a d v p h = by_lt_z v (int_div_ceil a d) (λ l. l)
    (λ l. absurd (apart _ _ _ (product-le (int_div_ceil a d) v d l (omega (arith, ints)))
    (ceil-parts a d p).0 h))
  where
    apart : (s t a : ℤ) → s ≤ℤ t → a ≤ℤ s → t <ℤ a → ⊥
    apart s t a h i j = omega (arith, ints)

-- it grows with what is divided
pub ceil-below : (a b d : ℤ) → pos 0 <ℤ d → a ≤ℤ b → int_div_ceil a d ≤ℤ int_div_ceil b d
ceil-below a b d p h = ceil-le a d (int_div_ceil b d) p (through a b _ h (ceil-parts b d p).0)
  where
    through : (a b s : ℤ) → a ≤ℤ b → b ≤ℤ s → a ≤ℤ s
    through a b s h i = omega (arith, ints)
