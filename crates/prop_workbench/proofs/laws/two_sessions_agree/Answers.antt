use Rattle.prop_workbench.proofs.AgreeLaws.{answers_meet, runs_meet_all, settled_texts_meet, settled_is_free}
use Rattle.prop_workbench.proofs.NumberingLaws.{steps_keep_numbers}
use Rattle.prop_workbench.proofs.laws.two_sessions_agree.Goals as goal

pub returns-clause-states : goal.returns-clause-states
returns-clause-states g c = runs_meet_all _

pub returns-clause-answers : goal.returns-clause-answers
returns-clause-answers g c = answers_meet _

pub returns-clause-settled : goal.returns-clause-settled
returns-clause-settled g c = settled_texts_meet _

pub returns-clause-free : goal.returns-clause-free
returns-clause-free g c = settled_is_free _

pub returns-clause-numbers : goal.returns-clause-numbers
returns-clause-numbers g c = steps_keep_numbers _
