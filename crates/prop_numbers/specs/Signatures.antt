-- The remainders that the numbers of a set leave.
use Rattle.std.specs.Prelude.{◌≡◌, ℕ, ◌%◌, [], ◌∷◌, IsTrue}
use Rattle.prop_numbers.specs.Sets.{Members}
use Rattle.prop_numbers.specs.Words.{has_bit}
use Rattle.prop_numbers.specs.declared.signature.Signature.{Signature}

-- the remainders by 128 whose bits are set
abbrev pub remainders : Signature → Members
remainders s = has_bit (s.even ∷ s.odd ∷ [])

-- they are those that the numbers of the set leave
pub record AreRemainders (set rs : Members) : Type 0 where
  pub has : (p : ℕ) → IsTrue (set p) → IsTrue (rs (p % 128))
  pub only : (i : ℕ) → IsTrue (rs i) → (p : ℕ) × IsTrue (set p) × (p % 128 ≡ i)
