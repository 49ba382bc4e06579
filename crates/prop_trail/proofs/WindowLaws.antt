-- Numbers that are ruled out, and that no longer are.
use Rattle.std.proofs.Common.{◌≡◌, ◌≢◌, ◌∙◌, ◌⊎◌, ℕ, ◌+◌, ◌%◌, ◌^◌, ℤ, ◌-ℤ◌, ◌≤ℤ◌, Bool, true, false, ◌==◌}
use Rattle.std.proofs.Common.{ap, sym, refl, subst, arith, inl, inr, bit_xor, unsigned_abs}
use Rattle.std.specs.Prelude.{int_lt, pos, IsTrue, ◌↔◌, zero, suc, ◌<◌, ◌≤◌, ◌-◌, ◌+ℤ◌, cond}
use Rattle.std.specs.Int.{bit_at}
use Rattle.std.specs.Int.Bits.{xor_zero_r, xor_self, xor_assoc}
use Rattle.std.proofs.lemmas.Int.{by_lt_z, ints}
use Rattle.std.proofs.lemmas.Bool.{cases_Bool, cases_eq, eqb-true, eq-eqb}
use Rattle.std.proofs.lemmas.Nat.Bits.{bit_at-zero, bit_at_xor, bit_at-pow_same, bit_at-pow_other, bit_at-lt}
use Rattle.prop_lattice.specs.declared.span.Span as spans
use Rattle.prop_lattice.specs.declared.info.Info.{Info}
use Rattle.prop_lattice.specs.declared.info.Info.TheVariants.{Nothing, Span, Set, Sym, Contradiction}
use Rattle.prop_trail.specs.Windows.{Ruled, Covers, IsOut, bit_of, covers, turned, flipped, window_of, window_over}
use Rattle.prop_trail.specs.Windows.{out_count, left_in}

-- what is turned twice is as it was
xor_twice : (bits m : ℕ) → bit_xor (bit_xor bits m) m ≡ bits
xor_twice bits m = xor_assoc bits m m ∙ ap (bit_xor bits) (xor_self m) ∙ xor_zero_r bits

turned_twice : (b : Bool) (w : Ruled) (n : ℤ) → covers w n ≡ b
    → flipped (turned b w (bit_of w n)) n ≡ w
turned_twice true w n e =
    ap (λ t. turned t (turned true w (bit_of w n)) (bit_of w n)) e
    ∙ ap (λ bits. record w { bits = bits }) (xor_twice w.bits (2 ^ bit_of w n))
turned_twice false w n e = ap (λ t. turned t w (bit_of w n)) e

pub flipped_twice : (w : Ruled) (n : ℤ) → flipped (flipped w n) n ≡ w
flipped_twice w n = turned_twice (covers w n) w n refl

covered : (w : Ruled) (n : ℤ) → Covers w n → covers w n ≡ true
covered w n h = grind (arith, ints)

uncovered : (w : Ruled) (n : ℤ) → covers w n ≡ true → Covers w n
uncovered w n h = grind (arith, ints)

-- the ends stay
turned_first : (b : Bool) (w : Ruled) (k : ℕ) → (turned b w k).first ≡ w.first
turned_first true w k = refl
turned_first false w k = refl

turned_last : (b : Bool) (w : Ruled) (k : ℕ) → (turned b w k).last ≡ w.last
turned_last true w k = refl
turned_last false w k = refl

pub covers_flipped : (w : Ruled) (n m : ℤ) → Covers w m → Covers (flipped w n) m
covers_flipped w n m h =
    let first = turned_first (covers w n) w (bit_of w n) in
    let last = turned_last (covers w n) w (bit_of w n) in
    (subst (λ (z : ℤ). z ≤ℤ m) (sym first) h.0, subst (λ (z : ℤ). m ≤ℤ z) (sym last) h.1)

pub flipped_covers : (w : Ruled) (n m : ℤ) → Covers (flipped w n) m → Covers w m
flipped_covers w n m h =
    let first = turned_first (covers w n) w (bit_of w n) in
    let last = turned_last (covers w n) w (bit_of w n) in
    (subst (λ (z : ℤ). z ≤ℤ m) first h.0, subst (λ (z : ℤ). m ≤ℤ z) last h.1)

bit_same : (w : Ruled) (n m : ℤ) → bit_of (flipped w n) m ≡ bit_of w m
bit_same w n m = ap (λ (z : ℤ). unsigned_abs (m -ℤ z)) (turned_first (covers w n) w (bit_of w n))

-- the bits of two numbers of a window are two
two_bits : (w : Ruled) (n m : ℤ) → Covers w n → Covers w m → m ≢ n → bit_of w m ≢ bit_of w n
two_bits w n m a b other e = other (omega (arith, ints, a, b, e))

-- the bit of a number after a turn
turned_bit_other : (b : Bool) (w : Ruled) (k i : ℕ) → i ≢ k → bit_at (turned b w k).bits i ≡ bit_at w.bits i
turned_bit_other true w k i other =
    let x = bit_at_xor w.bits (2 ^ k) i in
    let none = bit_at-pow_other k i other in
    let small = bit_at-lt w.bits i in
    let sum : (bit_at w.bits i + bit_at (2 ^ k) i) % 2 ≡ bit_at w.bits i =
    ap (λ (z : ℕ). (bit_at w.bits i + z) % 2) none ∙ omega (arith, small) in
    x ∙ sum
turned_bit_other false w k i other = refl

turned_bit : (w : Ruled) (k : ℕ) → bit_at w.bits k ≢ 1 → bit_at (turned true w k).bits k ≡ 1
turned_bit w k off =
    let x = bit_at_xor w.bits (2 ^ k) k in
    let one = bit_at-pow_same k in
    let small = bit_at-lt w.bits k in
    let zero : bit_at w.bits k ≡ 0 = omega (arith, small, off) in
    let sum : (bit_at w.bits k + bit_at (2 ^ k) k) % 2 ≡ 1 =
    ap (λ (z : ℕ). (z + bit_at (2 ^ k) k) % 2) zero ∙ ap (λ (z : ℕ). (0 + z) % 2) one ∙ omega arith in
    x ∙ sum

-- another number stays as it is
pub out_other : (w : Ruled) (n m : ℤ) → Covers w n → m ≢ n → IsOut w m → IsOut (flipped w n) m
out_other w n m here other out =
    let apart = two_bits w n m here out.0 other in (
      covers_flipped w n m out.0,
      ap (bit_at (flipped w n).bits) (bit_same w n m) ∙ turned_bit_other (covers w n) w (bit_of w n) (bit_of w m) apart
          ∙ out.1,
    )

pub other_out : (w : Ruled) (n m : ℤ) → Covers w n → m ≢ n → IsOut (flipped w n) m → IsOut w m
other_out w n m here other out =
    let was = flipped_covers w n m out.0 in
    let apart = two_bits w n m here was other in (
      was,
      sym (ap (bit_at (flipped w n).bits) (bit_same w n m)
          ∙ turned_bit_other (covers w n) w (bit_of w n) (bit_of w m) apart) ∙ out.1,
    )

-- a number that wasn't ruled out is
pub now_out : (w : Ruled) (n : ℤ) → Covers w n → (IsOut w n → ⊥) → IsOut (flipped w n) n
now_out w n here off =
    let on : bit_at (turned true w (bit_of w n)).bits (bit_of w n) ≡ 1 =
    turned_bit w (bit_of w n) (λ e. off (here, e)) in (
      covers_flipped w n n here,
      ap (bit_at (flipped w n).bits) (bit_same w n n)
          ∙ ap (λ (t : Bool). bit_at (turned t w (bit_of w n)).bits (bit_of w n)) (covered w n here) ∙ on,
    )

equal_or_not : (m n : ℤ) → (m ≡ n) ⊎ (m ≢ n)
equal_or_not m n =
    by_lt_z m n (λ l. inr (λ e. omega (arith, ints))) (λ le.
    by_lt_z n m (λ l. inr (λ e. omega (arith, ints))) (λ ge. inl (omega (arith, ints))))

uncovers : (w : Ruled) (n : ℤ) → (Covers w n ⊎ (covers w n ≡ false))
uncovers w n = elim (cases_Bool (covers w n)) [ inl t ↦ inl (uncovered w n t) | inr f ↦ inr f ]

stays : (w : Ruled) (n : ℤ) → covers w n ≡ false → flipped w n ≡ w
stays w n f = ap (λ (t : Bool). turned t w (bit_of w n)) f

-- what is out after a turn was out or is the number
pub out_or_same : (w : Ruled) (n m : ℤ) → IsOut (flipped w n) m → IsOut w m ⊎ (m ≡ n)
out_or_same w n m out = elim (uncovers w n) [
  | inl here ↦ elim (equal_or_not m n) [ inl e ↦ inr e | inr other ↦ inl (other_out w n m here other out) ]
  | inr f ↦ inl (subst (λ (x : Ruled). IsOut x m) (stays w n f) out)
]

-- what is out stays out where the number wasn't
pub out_stays : (w : Ruled) (n m : ℤ) → (IsOut w n → ⊥) → IsOut w m → IsOut (flipped w n) m
out_stays w n m off out = elim (uncovers w n) [
  | inl here ↦ elim (equal_or_not m n) [
    | inl e ↦ absurd (off (subst (IsOut w) e out))
    | inr other ↦ out_other w n m here other out
  ]
  | inr f ↦ subst (λ (x : Ruled). IsOut x m) (sym (stays w n f)) out
]

-- at the root nothing was ruled out
no_bits : (w : Ruled) (m : ℤ) → w.bits ≡ 0 → IsOut w m → ⊥
no_bits w m e out =
    let z : bit_at w.bits (bit_of w m) ≡ 0 = ap (λ (b : ℕ). bit_at b (bit_of w m)) e ∙ bit_at-zero (bit_of w m) in
    let o = out.1 in
    omega (arith, z, o)

over_bits : (b : Bool) (s : spans.Span) → (window_over b s).bits ≡ 0
over_bits true s = refl
over_bits false s = refl

window_bits : (info : Info) → (window_of info).bits ≡ 0
window_bits Nothing = refl
window_bits (Span s) = over_bits (int_lt (s.hi -ℤ s.lo) (pos 256)) s
window_bits (Set s) = refl
window_bits (Sym s) = refl
window_bits Contradiction = refl

pub none_out : (info : Info) (m : ℤ) → IsOut (window_of info) m → ⊥
none_out info m = no_bits (window_of info) m (window_bits info)

-- the bit that is looked at tells whether the number was ruled out
pub bit_tells : (w : Ruled) (n : ℤ) (b : ℕ) → Covers w n → b ≡ bit_at w.bits (bit_of w n) → IsTrue (b == 1) ↔ IsOut w n
bit_tells w n b here e = (λ h. (here, sym e ∙ eqb-true b 1 h), λ out. eq-eqb b 1 (e ∙ out.1))

-- a window in which the bit of a number is turned
pub flipped_is : (w : Ruled) (n : ℤ) (bits : ℕ) → Covers w n → bits ≡ bit_xor w.bits (2 ^ bit_of w n)
    → record w { bits = bits } ≡ flipped w n
flipped_is w n bits here e =
    ap (λ (b : ℕ). record w { bits = b }) e ∙ sym (ap (λ (t : Bool). turned t w (bit_of w n)) (covered w n here))

pub not_flipped : (w : Ruled) (n : ℤ) → (Covers w n → ⊥) → w ≡ flipped w n
not_flipped w n off = elim (uncovers w n) [ inl here ↦ absurd (off here) | inr f ↦ sym (stays w n f) ]

-- ---- how many are left

bit_or_none : (b : ℕ) → b < 2 → b ≢ 1 → b ≡ 0
bit_or_none b l ne = omega (arith, l, ne)

pub count_out : (w : Ruled) (n : ℤ) → IsOut w n → out_count w n ≡ 1
count_out w n out = ap (λ (t : Bool). cond t (bit_at w.bits (bit_of w n)) 0) (covered w n out.0) ∙ out.1

pub count_not_out : (w : Ruled) (n : ℤ) → (IsOut w n → ⊥) → out_count w n ≡ 0
count_not_out w n off = elim (uncovers w n) [
  | inl here ↦ ap (λ (t : Bool). cond t (bit_at w.bits (bit_of w n)) 0) (covered w n here)
      ∙ bit_or_none (bit_at w.bits (bit_of w n)) (bit_at-lt w.bits (bit_of w n)) (λ e. off (here, e))
  | inr f ↦ ap (λ (t : Bool). cond t (bit_at w.bits (bit_of w n)) 0) f
]

-- all are left where none was ruled out
pub all_left : (w : Ruled) (lo : ℤ) (n : ℕ) → w.bits ≡ 0 → n ≡ left_in w lo n
all_left w lo zero e = refl
all_left w lo (suc n) e =
    let rest = all_left w lo n e in
    let none = count_not_out w (lo +ℤ pos n) (no_bits w (lo +ℤ pos n) e) in
    omega (arith, rest, none)

-- no more are left than there are
pub left_le : (w : Ruled) (lo : ℤ) (n : ℕ) → left_in w lo n ≤ n
left_le w lo zero = omega arith
left_le w lo (suc n) = let rest = left_le w lo n in omega (arith, rest)

-- one number more
pub left_more : (w : Ruled) (lo n : ℤ) (k : ℕ) → n ≡ lo +ℤ pos k
    → left_in w lo (k + 1) ≡ left_in w lo k + (1 - out_count w n)
left_more w lo n k e =
    let next : k + 1 ≡ suc k = omega arith in
    ap (left_in w lo) next ∙ ap (λ (z : ℤ). left_in w lo k + (1 - out_count w z)) (sym e)

-- it can be told whether a number was ruled out
pub out_or_not : (w : Ruled) (n : ℤ) → IsOut w n ⊎ (IsOut w n → ⊥)
out_or_not w n = elim (uncovers w n) [
  | inl here ↦ elim (cases_eq (bit_at w.bits (bit_of w n)) 1) [
    | inl e ↦ inl (here, e)
    | inr ne ↦ inr (λ o. ne o.1)
  ]
  | inr f ↦ inr (λ o. let clash : true ≡ false = sym (covered w n o.0) ∙ f in cc)
]
