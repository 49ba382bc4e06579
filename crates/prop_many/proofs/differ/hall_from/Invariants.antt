use Rattle.std.proofs.Common.{◌≡◌, ◌+◌, ◌<◌, ◌≤◌, ℕ, drop, get_or, length}
use Rattle.prop_many.specs.Differ.{is_crowded, lying_in, width_of}
use Rattle.prop_many.proofs.differ.hall_from.Given as goal

abbrev pub invariant-loop-other : goal.invariant-loop-other
invariant-loop-other l = record {
  long : length l.counts ≡ 64;
  few : (k : ℕ) → k < 64 → get_or l.counts k 0 ≤ l.other-index;
  told : (k : ℕ) → k < 64 → (lying_in l.others l.first k + get_or l.counts k 0)
      + lying_in (drop l.other-index l.others) l.first (k + 1)
      ≡ lying_in l.others l.first (k + 1) + lying_in (drop l.other-index l.others) l.first k;
}

abbrev pub invariant-loop-many : goal.invariant-loop-many
invariant-loop-many l = record {
  lying : l.lying ≡ lying_in l.others l.first l.many;
  width : l.width ≡ width_of l.others l.first l.many;
  crowded : l.is_crowded ≡ is_crowded l.others l.first l.many;
}
