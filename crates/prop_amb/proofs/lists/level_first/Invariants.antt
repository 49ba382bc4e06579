use Rattle.std.proofs.Common.{◌≡◌, ◌<◌, ℕ, slice_index_or}
use Rattle.prop_amb.proofs.lists.level_first.Given as goal

abbrev pub invariant-loop-place : goal.invariant-loop-place
invariant-loop-place l = record {
  firsts : (i : ℕ) → i < l.place → slice_index_or l.list i 0 ≡ 1;
}
