use Rattle.std.proofs.Common.{◌≡◌, ◌<◌, ◌≤◌, ◌+◌, ◌⊎◌, ℕ, length, slice_index, bit_or}
use Rattle.prop_numbers.proofs.bits.unite.Given as goal

abbrev pub invariant-loop-place : goal.invariant-loop-place
invariant-loop-place l = record {
  len : length l.words ≡ length l.fn.words;
  done : (k : ℕ) → k < l.place → slice_index l.words (l.at + k) ≡ bit_or (slice_index l.fn.words (l.at + k))
      (slice_index l.more k);
  left : (k : ℕ) → (k < l.at) ⊎ (l.at + l.place ≤ k) → slice_index l.words k ≡ slice_index l.fn.words k;
}
