use Rattle.std.proofs.Common.{rules}
use Rattle.std.proofs.lemmas.Fn.{filter_same}
use Rattle.prop_cells.proofs.dropping.drop_statements.Goals as goal

pub returns : goal.returns
returns c = filter_same _ _ _ (λ x b q k. search rules) _ _ c.retain.ensures.filtered
