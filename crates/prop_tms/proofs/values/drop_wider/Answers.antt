use Rattle.std.proofs.Common.{rules}
use Rattle.arrayvec.proofs.ArrayVecLemmas.{filter-from_retain}
use Rattle.prop_tms.proofs.values.drop_wider.Goals as goal

pub returns-then-some-clause-kept : goal.returns-then-some-clause-kept
returns-then-some-clause-kept c = filter-from_retain _ _ _ (λ x b f' y called. search rules) _ _
    c.retain.ensures.filtered

pub returns-else-some-clause-kept : goal.returns-else-some-clause-kept
returns-else-some-clause-kept c = filter-from_retain _ _ _ (λ x b f' y called. search rules) _ _
    c.retain.ensures.filtered
