-- The bits that two numbers share are the most that both have.
use Rattle.std.specs.Prelude.{◌≡◌, ℕ, ◌≤◌, bit_and}
use Rattle.std.specs.Int.{bit_at}
use Rattle.std.proofs.Common.{arith}
use Rattle.std.proofs.lemmas.Nat.Bits.{bit_at_and, same_from_bits, bit_at-zero}
use Rattle.prop_lattice.specs.laws.Parts.{HasBitsOf}

pub bit_at_le : (a i : ℕ) → bit_at a i ≤ 1
bit_at_le a i = omega arith

pub part_left : (a b : ℕ) → HasBitsOf a (bit_and a b)
part_left a b i h = omega (arith, bit_at_and a b i, bit_at_le a i, bit_at_le b i)

pub part_right : (a b : ℕ) → HasBitsOf b (bit_and a b)
part_right a b i h = omega (arith, bit_at_and a b i, bit_at_le a i, bit_at_le b i)

pub part_least : (a b c : ℕ) → HasBitsOf a c → HasBitsOf b c → HasBitsOf (bit_and a b) c
part_least a b c p q i h = omega (arith, bit_at_and a b i, p i h, q i h)

same_bit : (a b i : ℕ) → (bit_at a i ≡ 1 → bit_at b i ≡ 1) → (bit_at b i ≡ 1 → bit_at a i ≡ 1)
    → bit_at a i ≡ bit_at b i
same_bit a b i p q = grind (arith, bit_at_le)

pub same_parts : (a b : ℕ) → HasBitsOf a b → HasBitsOf b a → a ≡ b
same_parts a b p q = same_from_bits a b (λ i. same_bit a b i (q i) (p i))

-- a number with bits has one, so what has no bits has not all of them
pub part_of_none : (a c : ℕ) → a ≡ 0 → HasBitsOf a c → c ≡ 0
part_of_none a c e p = same_parts c 0 (λ i h. absurd (omega (arith, h, bit_at-zero i)))
    (λ i h. rw (← e) (p i h))
