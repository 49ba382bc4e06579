use Rattle.std.proofs.Common.{◌≡◌, take}
use Rattle.prop_vocabulary.specs.Pairs.{texts_of_pairs}
use Rattle.prop_vocabulary.specs.inner.Between.{with_pairs}
use Rattle.prop_vocabulary.proofs.pairs.add_pairs.Given as goal

abbrev pub invariant-loop-pair : goal.invariant-loop-pair
invariant-loop-pair l = record {
  made : l.rows ≡ with_pairs l.first l.second l.initial.rows (texts_of_pairs (take l.pair-index l.pairs));
  from : l.rows.from ≡ l.initial.rows.from;
  to : l.rows.to ≡ l.initial.rows.to;
}
