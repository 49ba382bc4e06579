use Rattle.prop_scheduler.proofs.Bounds.{most_is_most, most_of_small}
use Rattle.prop_scheduler.proofs.laws.steps_are_bounded.Goals as goal

pub returns-clause-most : goal.returns-clause-most
returns-clause-most c = most_is_most

pub returns-clause-small : goal.returns-clause-small
returns-clause-small c = most_of_small
