use Rattle.std.proofs.Common.{◌≢◌, rules}
use Rattle.prop_tms.proofs.KeptLemmas.{left_from_retain, left_none}
use Rattle.prop_tms.proofs.ValueLemmas.{IsBare, entries_of-left, values_left}
use Rattle.prop_tms.proofs.values.drop_bare.Goals as goal

pub returns-clause-same : goal.returns-clause-same
returns-clause-same g c = entries_of-left _ _
    (left_from_retain IsBare _ _ (λ x b f' y called. search rules) _ _ c.retain.ensures.filtered)

pub returns-clause-apart : goal.returns-clause-apart
returns-clause-apart g c = values_left (λ a b. a ≢ b) _ _
    (left_from_retain IsBare _ _ (λ x b f' y called. search rules) _ _ c.retain.ensures.filtered) c.requires

pub returns-clause-bare : goal.returns-clause-bare
returns-clause-bare g c = left_none IsBare _ _
    (left_from_retain IsBare _ _ (λ x b f' y called. search rules) _ _ c.retain.ensures.filtered)
