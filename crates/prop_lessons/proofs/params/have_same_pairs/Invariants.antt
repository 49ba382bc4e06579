use Rattle.std.proofs.Common.{ℕ, ◌<◌, ◌↔◌}
use Rattle.prop_sets.specs.Relation.{HasPair}
use Rattle.prop_lessons.proofs.params.have_same_pairs.Given as goal

abbrev pub invariant-loop-element : goal.invariant-loop-element
invariant-loop-element l = (i j : ℕ) → i < l.element → HasPair l.one i j ↔ HasPair l.other i j
