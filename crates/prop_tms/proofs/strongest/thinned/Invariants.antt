use Rattle.std.proofs.Common.{◌≡◌, ◌++◌, List, [], All, Contains, IsTrue, vec_len}
use Rattle.prop_numbers.specs.Sets.{Members, is_within}
use Rattle.prop_tms.specs.inner.Gains.{gained_of}
use Rattle.prop_tms.specs.declared.supported.Supported.{Supported}
use Rattle.prop_tms.proofs.LeanLemmas.{AreEnough, IsThinned}
use Rattle.prop_tms.proofs.strongest.thinned.Given as goal

abbrev pub invariant-loop-gain : goal.invariant-loop-gain
invariant-loop-gain g l = record {
  enough : AreEnough g.V.Partial.below g.V.Partial.bottom g.V.Partial.join l.gains.items l.after l.value;
  none : l.fn.gains.items ≡ [] → l.gains.items ≡ [];
  empty : l.fn.gains.items ≡ [] → l.support ≡ [];
  among : All (Contains (gained_of l.fn.gains.items)) (gained_of l.gains.items);
  front : (rest : List (Supported _)) ×
      (gained_of l.fn.gains.items ≡ gained_of l.gains.items ++ rest);
  thinned : (w : Members) → All (λ e. IsTrue (is_within w e.support)) (gained_of l.fn.gains.items) →
      IsThinned g.V.Partial.bottom g.V.Partial.join (gained_of l.fn.gains.items) w l.value (gained_of l.gains.items)
      l.after l.support;
}

abbrev pub decreases-loop-gain : goal.decreases-loop-gain
decreases-loop-gain g l = vec_len l.gains
