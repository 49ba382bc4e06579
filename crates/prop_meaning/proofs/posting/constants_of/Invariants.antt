use Rattle.std.proofs.Common.{◌≡◌, ◌+◌, ◌++◌, drop}
use Rattle.prop_meaning.specs.inner.Expanding.{all_constants}
use Rattle.prop_meaning.proofs.posting.constants_of.Given as goal

abbrev pub invariant-loop-k : goal.invariant-loop-k
invariant-loop-k l =
    l.constants.items ++ all_constants (l.count + l.k) (drop l.k l.made) ≡ all_constants l.count l.made
