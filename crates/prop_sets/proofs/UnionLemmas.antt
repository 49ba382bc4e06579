-- The union of words, one word after another.
use Rattle.std.proofs.Common.{◌≡◌, ◌≢◌, ℕ, ◌*◌, ◌%◌, ◌^◌, ◌<◌, ◌≤◌, ◌⊎◌, List, get_or, inl, inr, arith, bit_and, bit_or}
use Rattle.std.specs.Int.{bit_at, bit_not, w64, trailing_zeros}
use Rattle.std.proofs.lemmas.Bool.{cases_eq, cases_lt}
use Rattle.std.proofs.lemmas.Nat.{and_le_l}
use Rattle.std.proofs.lemmas.Nat.Bits.{bit_at-zero, bit_at-lt, bit_at_above, bit_at_and, bit_at_or, bit_at_clear_same}
use Rattle.std.proofs.lemmas.Nat.Bits.{bit_at_clear_other, bit_at-trailing_zeros}
use Rattle.prop_lattice.specs.laws.Parts.{HasBitsOf}
use Rattle.prop_lattice.specs.Ends.{elements_from}
use Rattle.prop_lattice.specs.declared.elements.Elements as sets
use Rattle.prop_sets.specs.Others.{IsOther, without_of}
use Rattle.prop_sets.specs.laws.OtherLaws.{without_from_bits}
use Rattle.prop_sets.specs.inner.Words.{IsUnionOf}

-- the union has what the chosen words have but those of the rest
pub record IsUnionSoFar (words : List ℕ) (chosen union rest : ℕ) : Type 0 where
  pub within : HasBitsOf chosen rest
  pub from_words : (j : ℕ) → bit_at union j ≡ 1 → (i : ℕ) × ((bit_at chosen i ≡ 1) × (bit_at (get_or words i 0) j ≡ 1))
  pub from_each : (i j : ℕ) → bit_at chosen i ≡ 1 → bit_at (get_or words i 0) j ≡ 1
      → (bit_at union j ≡ 1) ⊎ (bit_at rest i ≡ 1)

pub at_start : (words : List ℕ) (chosen : ℕ) → IsUnionSoFar words chosen 0 chosen
at_start words chosen = record {
  within = λ i h. h;
  from_words = λ j h. absurd (omega (arith, h, bit_at-zero j));
  from_each = λ i j h k. inr h;
}

pub at_end : (words : List ℕ) (chosen union rest : ℕ) → rest ≡ 0 → IsUnionSoFar words chosen union rest
    → IsUnionOf words chosen union
at_end words chosen union rest e p = record {
  from_words = p.from_words;
  from_each = λ i j h k. elim (p.from_each i j h k)
      [ inl here ↦ here | inr there ↦ absurd (omega (arith, bit_at-zero i, rw e at there)) ];
}

-- the number of the first word of the rest
pub first_in : (rest : ℕ) → rest ≢ 0 → rest < 2 ^ 64
    → (trailing_zeros w64 rest < 64) × (bit_at rest (trailing_zeros w64 rest) ≡ 1)
first_in rest some fits =
    let first = bit_at-trailing_zeros w64 rest (omega arith) fits in
    (first.0, first.1)

-- a word without its bit k
abbrev pub cleared : ℕ → ℕ → ℕ
cleared rest k = bit_and rest (bit_not w64 (1 * 2 ^ k % 2 ^ 64))

-- a bit other than k of a word of 64 bits stays
pub stays : (rest k i : ℕ) → rest < 2 ^ 64 → k < 64 → i ≢ k → bit_at rest i ≡ 1 → bit_at (cleared rest k) i ≡ 1
stays rest k i fits l other h = by (cases_lt i 64)
  where
    by : (i < 64) ⊎ (64 ≤ i) → bit_at (cleared rest k) i ≡ 1
    by (inl low) = rw (bit_at_clear_other w64 rest k l i low other) h
    by (inr high) = absurd (omega (arith, h, bit_at_above rest 64 i fits high))

-- and a bit that is there was there before
pub was : (rest k i : ℕ) → bit_at (cleared rest k) i ≡ 1 → bit_at rest i ≡ 1
was rest k i h = omega (arith, bit_at_and rest (bit_not w64 (1 * 2 ^ k % 2 ^ 64)) i, h, bit_at-lt rest i)

-- the rest gets smaller
pub cleared-lt : (rest k : ℕ) → k < 64 → bit_at rest k ≡ 1 → cleared rest k < rest
cleared-lt rest k l h = by (cases_eq (cleared rest k) rest)
  where
    by : (cleared rest k ≡ rest) ⊎ (cleared rest k ≢ rest) → cleared rest k < rest
    by (inl same) = absurd (omega (arith, h, rw same at (bit_at_clear_same w64 rest k l)))
    by (inr other) = omega (arith, and_le_l rest (bit_not w64 (1 * 2 ^ k % 2 ^ 64)))

-- the word k joins the union
pub joined : (words : List ℕ) (chosen union rest k word : ℕ) → rest < 2 ^ 64 → k < 64 → bit_at rest k ≡ 1
    → word ≡ get_or words k 0 → IsUnionSoFar words chosen union rest
    → IsUnionSoFar words chosen (bit_or union word) (cleared rest k)
joined words chosen union rest k word fits l here is p = record {
  within = λ i h. p.within i (was rest k i h);
  from_words = from_words;
  from_each = λ i j h w. each i j h w (cases_eq i k);
}
  where
    from_words : (j : ℕ) → bit_at (bit_or union word) j ≡ 1
        → (i : ℕ) × ((bit_at chosen i ≡ 1) × (bit_at (get_or words i 0) j ≡ 1))
    from_words j h = by (cases_eq (bit_at union j) 1)
      where
        by : (bit_at union j ≡ 1) ⊎ (bit_at union j ≢ 1)
            → (i : ℕ) × ((bit_at chosen i ≡ 1) × (bit_at (get_or words i 0) j ≡ 1))
        by (inl old) = p.from_words j old
        by (inr new) = (
          k,
          (
            p.within k here,
            rw (← is) (omega (arith, bit_at_or union word j, h, bit_at-lt union j, bit_at-lt word j)),
          ),
        )

    each : (i j : ℕ) → bit_at chosen i ≡ 1 → bit_at (get_or words i 0) j ≡ 1 → (i ≡ k) ⊎ (i ≢ k)
        → (bit_at (bit_or union word) j ≡ 1) ⊎ (bit_at (cleared rest k) i ≡ 1)
    each i j h w (inl same) =
        let added : bit_at word j ≡ 1 = rw is (rw same at w) in
        inl (omega (arith, bit_at_or union word j, bit_at-lt union j))
    each i j h w (inr other) = elim (p.from_each i j h w) [
      | inl old ↦ inl (omega (arith, bit_at_or union word j, bit_at-lt word j))
      | inr there ↦ inr (stays rest k i fits l other there)
    ]

-- the elements other than x are those that stay
pub without_cleared : (y : sets.Elements) (x : ℕ) → x < 64 → elements_from (cleared y.bits x) ≡ without_of y x
without_cleared y x l = without_from_bits y x (cleared y.bits x) only (λ j p. stays y.bits x j y.fits l p.1 p.0)
  where
    only : (j : ℕ) → bit_at (cleared y.bits x) j ≡ 1 → IsOther y x j
    only j h = (was y.bits x j h, λ same. absurd (omega (arith, bit_at_clear_same w64 y.bits x l, rw same at h)))
