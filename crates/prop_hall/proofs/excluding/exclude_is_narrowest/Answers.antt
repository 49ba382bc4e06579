use Rattle.prop_hall.proofs.SetLemmas.{excluded_is_narrowest}
use Rattle.prop_hall.proofs.SpanLemmas.{excluded_span_is_narrowest}
use Rattle.prop_hall.proofs.excluding.exclude_is_narrowest.Goals as goal

pub returns-clause-sets : goal.returns-clause-sets
returns-clause-sets c = excluded_is_narrowest

pub returns-clause-spans : goal.returns-clause-spans
returns-clause-spans c = excluded_span_is_narrowest
