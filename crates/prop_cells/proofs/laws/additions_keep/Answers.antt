use Rattle.prop_cells.proofs.Fixpoint.{entails_extends}
use Rattle.prop_cells.proofs.ProblemLaws.{contradictory_extends, reaches_extends, related_extends}
use Rattle.prop_cells.proofs.laws.additions_keep.Goals as goal

pub returns-clause-entailment : goal.returns-clause-entailment
returns-clause-entailment c = entails_extends

pub returns-clause-contradiction : goal.returns-clause-contradiction
returns-clause-contradiction c = contradictory_extends

pub returns-clause-reach : goal.returns-clause-reach
returns-clause-reach c = reaches_extends

pub returns-clause-relation : goal.returns-clause-relation
returns-clause-relation c = related_extends
