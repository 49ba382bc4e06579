use Rattle.prop_sets.specs.laws.TruthLaws.{and_monotone, and_back_monotone, or_monotone, or_back_monotone, not_monotone}
use Rattle.prop_sets.proofs.truth.truths_are_monotone.Goals as goal

pub returns-clause-and : goal.returns-clause-and
returns-clause-and c = and_monotone

pub returns-clause-and_back : goal.returns-clause-and_back
returns-clause-and_back c = and_back_monotone

pub returns-clause-or : goal.returns-clause-or
returns-clause-or c = or_monotone

pub returns-clause-or_back : goal.returns-clause-or_back
returns-clause-or_back c = or_back_monotone

pub returns-clause-not : goal.returns-clause-not
returns-clause-not c = not_monotone
