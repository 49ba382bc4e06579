use Rattle.prop_scheduler.proofs.Alike.{stirs_are_one, turns_alike, first_once, last_once, mixed_once}
use Rattle.prop_scheduler.proofs.laws.calls_are_determined.Goals as goal

pub returns-clause-stirs : goal.returns-clause-stirs
returns-clause-stirs g c = stirs_are_one

pub returns-clause-turns : goal.returns-clause-turns
returns-clause-turns g c = turns_alike g.O.Order.picks

pub returns-clause-first : goal.returns-clause-first
returns-clause-first g c = first_once

pub returns-clause-last : goal.returns-clause-last
returns-clause-last g c = last_once

pub returns-clause-mixed : goal.returns-clause-mixed
returns-clause-mixed g c = mixed_once
