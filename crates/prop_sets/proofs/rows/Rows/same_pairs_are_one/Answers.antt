use Rattle.prop_sets.proofs.RelationLemmas.{same_pairs}
use Rattle.prop_sets.proofs.rows.Rows.same_pairs_are_one.Goals as goal

pub returns : goal.returns
returns c = same_pairs
