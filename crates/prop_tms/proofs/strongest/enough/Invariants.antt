use Rattle.std.proofs.Common.{◌≡◌, ◌≤◌, ◌+◌, ◌-◌, ℕ, length, take}
use Rattle.prop_tms.specs.Beliefs.{merge_of_all}
use Rattle.prop_tms.specs.inner.Gains.{gained_of}
use Rattle.prop_tms.proofs.strongest.enough.Given as goal

abbrev pub invariant-loop-low : goal.invariant-loop-low
invariant-loop-low g l = record {
  order : l.low ≤ l.high;
  bound : l.high ≤ length l.gains;
  says : g.V.Partial.below l.value (g.V.Partial.join
      (merge_of_all g.V.Partial.bottom g.V.Partial.join (gained_of (take l.high l.gains))) l.other);
  needed : (k : ℕ) → k + 1 ≡ l.low → ¬
      (g.V.Partial.below l.value (g.V.Partial.join
      (merge_of_all g.V.Partial.bottom g.V.Partial.join (gained_of (take k l.gains))) l.other));
}

abbrev pub decreases-loop-low : goal.decreases-loop-low
decreases-loop-low g l = l.high - l.low
