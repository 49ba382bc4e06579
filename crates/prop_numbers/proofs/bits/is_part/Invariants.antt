use Rattle.std.proofs.Common.{◌<◌, ◌+◌, ◌*◌, ℕ, slice_index, IsTrue}
use Rattle.prop_numbers.specs.Sets.{set_of}
use Rattle.prop_numbers.specs.Words.{is_set, numbers_from}
use Rattle.prop_numbers.proofs.bits.is_part.Given as goal

abbrev pub invariant-loop-place : goal.invariant-loop-place
invariant-loop-place l = (k i : ℕ) → k < l.place → i < 64 → IsTrue (is_set (slice_index l.words k) i) →
    IsTrue (set_of (numbers_from (64 * l.others_first) l.others) (64 * (l.first + k) + i))
