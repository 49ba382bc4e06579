use Rattle.std.proofs.Common.{◌≡◌, ◌+◌, ◌++◌, drop}
use Rattle.prop_meaning.specs.inner.Expanding.{all_acts}
use Rattle.prop_meaning.proofs.posting.acts_of.Given as goal

abbrev pub invariant-loop-k : goal.invariant-loop-k
invariant-loop-k l = l.acts.items ++ all_acts (l.count + l.k) (drop l.k l.made) ≡ all_acts l.count l.made
