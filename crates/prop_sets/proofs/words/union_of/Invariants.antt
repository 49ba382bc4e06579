use Rattle.prop_sets.proofs.UnionLemmas.{IsUnionSoFar}
use Rattle.prop_sets.proofs.words.union_of.Given as goal

abbrev pub invariant-loop-rest : goal.invariant-loop-rest
invariant-loop-rest l = IsUnionSoFar l.words l.chosen l.union l.rest

abbrev pub decreases-loop-rest : goal.decreases-loop-rest
decreases-loop-rest l = l.rest
