use Rattle.std.proofs.Common.{◌≡◌, ◌==◌, ◌||◌, ℕ, false, length, slice_index_or, take}
use Rattle.std.specs.List.{list_any}
use Rattle.prop_origins.proofs.pruning.mark.Given as goal

abbrev pub invariant-loop-cell : goal.invariant-loop-cell
invariant-loop-cell l = record {
  count : length l.marks.items ≡ length l.initial.marks.items;
  marked : (k : ℕ) → slice_index_or l.marks.items k false
      ≡ (slice_index_or l.initial.marks.items k false || list_any (λ cell. cell == k) (take l.cell-index l.cells));
}
