-- What is known of the information that the bits of a word make.
use Rattle.std.specs.Prelude.{◌≡◌, ℕ, ◌<◌, ◌≤◌, ◌^◌, ◌⊎◌}
use Rattle.std.specs.Int.{bit_at, w64, trailing_zeros}
use Rattle.std.proofs.Common.{arith, inl, inr}
use Rattle.std.proofs.lemmas.Bool.{cases_lt}
use Rattle.std.proofs.lemmas.Nat.Bits.{bit_at-zero, bit_at-trailing_zeros}
use Rattle.prop_lattice.specs.Ends.{some_or_not, elements_from}
use Rattle.prop_lattice.specs.inner.Ends.{AreSome, elements_if}
use Rattle.prop_lattice.specs.Order.{Below}
use Rattle.prop_lattice.specs.laws.PartLaws.{part_of_none}
use Rattle.prop_lattice.specs.laws.Parts.{HasBitsOf}
use Rattle.prop_lattice.specs.Parts.{AllBelow}
use Rattle.prop_lattice.specs.Points.{Element, Holds}
use Rattle.prop_lattice.specs.Rank.{IsOf}
use Rattle.prop_lattice.specs.declared.info.Info.{Info}
use Rattle.prop_lattice.specs.declared.info.Info.TheVariants.{Nothing, Span, Set, Sym}
use Rattle.prop_lattice.specs.declared.info.Info.TheVariants.{Contradiction}
use Rattle.prop_lattice.specs.declared.info.Kind.TheVariants as kinds
use Rattle.prop_sets.specs.Narrowest.{IsNarrowest}

-- ---- elements and bits

-- it holds the element of each bit
pub elements_hold : (bits : ℕ) → bits < 2 ^ 64 → (j : ℕ) → bit_at bits j ≡ 1
    → Holds (elements_from bits) (Element j)
unfolding elements_from
elements_hold bits fits j h = by (some_or_not bits)
  where
    by : (d : AreSome bits ⊎ ¬ (AreSome bits)) → Holds (elements_if bits d) (Element j)
    by (inl e) = h
    by (inr f) = absurd (f (some (cases_lt 0 bits), fits))
      where
        some : (0 < bits) ⊎ (bits ≤ 0) → 0 < bits
        some (inl l) = l
        some (inr l) = let none : bits ≡ 0 =
            omega arith in absurd (omega (arith, bit_at-zero j, rw none at h))

-- and no others
pub bit_from_held : (bits j : ℕ) → Holds (elements_from bits) (Element j) → bit_at bits j ≡ 1
unfolding elements_from
bit_from_held bits j h = by (some_or_not bits) h
  where
    by : (d : AreSome bits ⊎ ¬ (AreSome bits)) → Holds (elements_if bits d) (Element j)
        → bit_at bits j ≡ 1
    by (inl e) h = h
    by (inr f) h = absurd h

-- fewer bits are more information
pub elements_below : (a b : ℕ) → a < 2 ^ 64 → HasBitsOf a b
    → Below (elements_from a) (elements_from b)
unfolding elements_from
elements_below a b fits h = by (some_or_not a) (some_or_not b)
  where
    by : (d : AreSome a ⊎ ¬ (AreSome a)) (e : AreSome b ⊎ ¬ (AreSome b))
        → Below (elements_if a d) (elements_if b e)
    by (inl x) (inl y) = h
    by (inl x) (inr g) = tt
    by (inr f) (inl y) = elim (cases_lt 0 a) [
      | inl some ↦ absurd (f (some, fits))
      | inr none ↦ (let empty : b ≡ 0 = part_of_none a b (omega arith) h in absurd
          (omega (arith, y.0)))
    ]
    by (inr f) (inr g) = tt

-- its kind is that of the elements
pub elements_of_kind : (domain size bits : ℕ) → AllBelow size bits
    → IsOf (kinds.Set domain) size (elements_from bits)
unfolding elements_from
elements_of_kind domain size bits h = by (some_or_not bits)
  where
    by : (d : AreSome bits ⊎ ¬ (AreSome bits)) → IsOf (kinds.Set domain) size (elements_if bits d)
    by (inl e) = h
    by (inr f) = tt

-- ---- the narrowest

one_set : (bits : ℕ) → AreSome bits → (j : ℕ) × (bit_at bits j ≡ 1)
one_set bits e = (trailing_zeros w64 bits, (bit_at-trailing_zeros w64 bits e.0 e.1).1)

highest_if : (P : ℕ → Type 0) (bits : ℕ) → ((j : ℕ) → bit_at bits j ≡ 1 → P j) → (s : Info)
    → ((j : ℕ) → P j → Holds s (Element j)) → (d : AreSome bits ⊎ ¬ (AreSome bits))
    → Below s (elements_if bits d)
highest_if P bits only Nothing h d = tt
highest_if P bits only (Set a) h (inl e) = λ j b. h j (only j b)
highest_if P bits only (Span a) h (inl e) = let one =
    one_set bits e in absurd (h one.0 (only one.0 one.1))
highest_if P bits only (Sym a) h (inl e) = let one =
    one_set bits e in absurd (h one.0 (only one.0 one.1))
highest_if P bits only Contradiction h (inl e) = let one =
    one_set bits e in absurd (h one.0 (only one.0 one.1))
highest_if P bits only (Set a) h (inr f) = tt
highest_if P bits only (Span a) h (inr f) = tt
highest_if P bits only (Sym a) h (inr f) = tt
highest_if P bits only Contradiction h (inr f) = tt

highest : (P : ℕ → Type 0) (bits : ℕ) → ((j : ℕ) → bit_at bits j ≡ 1 → P j) → (s : Info)
    → ((j : ℕ) → P j → Holds s (Element j)) → Below s (elements_from bits)
unfolding elements_from
highest P bits only s h = highest_if P bits only s h (some_or_not bits)

-- where the bits are those of the elements of which P is true
pub elements_narrowest : (P : ℕ → Type 0) (bits : ℕ) → bits < 2 ^ 64
    → ((j : ℕ) → bit_at bits j ≡ 1 → P j) → ((j : ℕ) → P j → bit_at bits j ≡ 1)
    → IsNarrowest P (elements_from bits)
elements_narrowest P bits fits only each = record {
  holds = λ j p. elements_hold bits fits j (each j p);
  highest = highest P bits only;
}
