-- Rows and columns that say the same.
use Rattle.std.proofs.Common.{◌≡◌, ◌≢◌, ℕ, ◌^◌, ◌<◌, ◌≤◌, ◌⊎◌, List, length, get_or, replicate, inl, inr, arith, bit_or}
use Rattle.std.proofs.Common.{length-set}
use Rattle.std.specs.Int.{bit_at}
use Rattle.std.proofs.lemmas.Bool.{cases_eq, cases_lt}
use Rattle.std.proofs.lemmas.List.{get_or_past, get_or-set_same, get_or-set_other, get_or-replicate, length-replicate}
use Rattle.std.proofs.lemmas.Nat.Bits.{bit_at-zero, bit_at-lt, bit_at_or, bit_at-pow_same, bit_at-pow_other}
use Rattle.prop_sets.specs.Relation.{Relation, HasPair, with_pair, AddsPair}
use Rattle.prop_sets.specs.inner.Words.{with_bit}
use Rattle.prop_sets.specs.inner.Ties.{Turned, AreTied}

-- a word with a bit is there
pub word_within : (words : List ℕ) (i j : ℕ) → bit_at (get_or words i 0) j ≡ 1 → i < length words
word_within words i j h = by (cases_lt i (length words))
  where
    by : (i < length words) ⊎ (length words ≤ i) → i < length words
    by (inl l) = l
    by (inr past) = absurd (omega (arith, bit_at-zero j, rw (get_or_past words i 0 past) at h))

-- the bits of rows are pairs of a row and a column
pub tied_within : (height width : ℕ) (rows columns : List ℕ) → AreTied height width rows columns → (i j : ℕ)
    → bit_at (get_or rows i 0) j ≡ 1 → (i < height) × (j < width)
tied_within height width rows columns t i j h = (
  omega (arith, word_within rows i j h, t.height_is),
  omega (arith, word_within columns j i (t.across i j h), t.width_is),
)

-- ---- no pairs

no_bit : (n i j : ℕ) → bit_at (get_or (replicate n 0) i 0) j ≡ 0
no_bit n i j = by (cases_lt i n)
  where
    by : (i < n) ⊎ (n ≤ i) → bit_at (get_or (replicate n 0) i 0) j ≡ 0
    by (inl l) = rw (get_or-replicate {A = ℕ} n i 0 0 l) (bit_at-zero j)
    by (inr past) = rw (get_or_past {X = ℕ} (replicate n 0) i 0 (omega (arith, length-replicate {A = ℕ} n 0)))
        (bit_at-zero j)

-- ---- one pair more

-- the bits of a list of words in which one bit was set
pub bit_from_added : (words : List ℕ) (i j a b : ℕ) → bit_at (get_or (with_bit words i j) a 0) b ≡ 1
    → (bit_at (get_or words a 0) b ≡ 1) ⊎ ((a ≡ i) × (b ≡ j))
bit_from_added words i j a b h = by (cases_eq a i) (cases_eq b j) (cases_lt i (length words))
  where
    old : get_or (with_bit words i j) a 0 ≡ get_or words a 0 → bit_at (get_or words a 0) b ≡ 1
    old e = rw e at h

    by : (a ≡ i) ⊎ (a ≢ i) → (b ≡ j) ⊎ (b ≢ j) → (i < length words) ⊎ (length words ≤ i)
        → (bit_at (get_or words a 0) b ≡ 1) ⊎ ((a ≡ i) × (b ≡ j))
    by (inr other) e l = inl (old (get_or-set_other words i a _ 0 other))
    by (inl same) (inl bit) l = inr (same, bit)
    by (inl same) (inr other) (inl l) =
        let word = bit_or (get_or words i 0) (2 ^ j) in
        let new : bit_at word b ≡ 1 = rw (same, get_or-set_same words i word 0 l) at h in
        inl (rw same (omega (arith, bit_at_or (get_or words i 0) (2 ^ j) b, bit_at-pow_other j b other)))
    by (inl same) (inr other) (inr past) =
        absurd (omega (
          arith,
          bit_at-zero b,
          rw (get_or_past (with_bit words i j) a 0
              (omega (arith, length-set words i (bit_or (get_or words i 0) (2 ^ j))))) at h,
        ))

pub bit_stays : (words : List ℕ) (i j a b : ℕ) → bit_at (get_or words a 0) b ≡ 1
    → bit_at (get_or (with_bit words i j) a 0) b ≡ 1
bit_stays words i j a b h = by (cases_eq a i)
  where
    by : (a ≡ i) ⊎ (a ≢ i) → bit_at (get_or (with_bit words i j) a 0) b ≡ 1
    by (inr other) = rw (get_or-set_other words i a (bit_or (get_or words i 0) (2 ^ j)) 0 other) h
    by (inl same) =
        let l : i < length words = omega (arith, same, word_within words a b h) in
        let here : bit_at (get_or words i 0) b ≡ 1 = rw same at h in
        rw (same, get_or-set_same words i (bit_or (get_or words i 0) (2 ^ j)) 0 l)
        (omega (arith, bit_at_or (get_or words i 0) (2 ^ j) b, bit_at-lt (2 ^ j) b))

pub bit_added : (words : List ℕ) (i j : ℕ) → i < length words → bit_at (get_or (with_bit words i j) i 0) j ≡ 1
bit_added words i j l =
    rw (get_or-set_same words i (bit_or (get_or words i 0) (2 ^ j)) 0 l)
    (omega (arith, bit_at_or (get_or words i 0) (2 ^ j) j, bit_at-pow_same j, bit_at-lt (get_or words i 0) j))

turned-added : (rows columns : List ℕ) (i j : ℕ) → j < length columns → Turned rows columns
    → Turned (with_bit rows i j) (with_bit columns j i)
turned-added rows columns i j l t a b h = by (bit_from_added rows i j a b h)
  where
    by : (bit_at (get_or rows a 0) b ≡ 1) ⊎ ((a ≡ i) × (b ≡ j)) → bit_at (get_or (with_bit columns j i) b 0) a ≡ 1
    by (inl old) = bit_stays columns j i b a (t a b old)
    by (inr new) = rw (new.0, new.1) (bit_added columns j i l)

pub tied-added : (height width : ℕ) (rows columns : List ℕ) (i j : ℕ) → i < height → j < width
    → AreTied height width rows columns → AreTied height width (with_bit rows i j) (with_bit columns j i)
tied-added height width rows columns i j k l t = record {
  height_is = omega (arith, t.height_is, length-set rows i (bit_or (get_or rows i 0) (2 ^ j)));
  width_is = omega (arith, t.width_is, length-set columns j (bit_or (get_or columns j 0) (2 ^ i)));
  across = turned-added rows columns i j (omega (arith, t.width_is)) t.across;
  back = turned-added columns rows j i (omega (arith, t.height_is)) t.back;
}

pub adds-pair : (m : Relation) (i j : ℕ) → i < m.from.size → j < m.to.size → length m.rows ≡ m.from.size
    → AddsPair m (with_pair m i j) i j
adds-pair m i j k l e a b = (apart, together)
  where
    apart : HasPair (with_pair m i j) a b → HasPair m a b ⊎ ((a ≡ i) × (b ≡ j))
    apart h = by (bit_from_added m.rows i j a b h.partners)
      where
        by : (bit_at (get_or m.rows a 0) b ≡ 1) ⊎ ((a ≡ i) × (b ≡ j)) → HasPair m a b ⊎ ((a ≡ i) × (b ≡ j))
        by (inl old) = inl (record { first = h.first; second = h.second; partners = old })
        by (inr new) = inr new

    together : HasPair m a b ⊎ ((a ≡ i) × (b ≡ j)) → HasPair (with_pair m i j) a b
    together (inl old) = record {
      first = old.first;
      second = old.second;
      partners = bit_stays m.rows i j a b old.partners;
    }
    together (inr new) = record {
      first = omega (arith, new.0);
      second = omega (arith, new.1);
      partners = rw (new.0, new.1) (bit_added m.rows i j (omega (arith, e)));
    }
