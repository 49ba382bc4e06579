use Rattle.std.proofs.Common.{rules}
use Rattle.arrayvec.proofs.ArrayVecLemmas.{filter-from_retain}
use Rattle.prop_tms.proofs.purging.drop_holding.Goals as goal

pub returns-clause-left : goal.returns-clause-left
returns-clause-left c = filter-from_retain _ _ _ (λ x b f' y called. search rules) _ _ c.retain.ensures.filtered
