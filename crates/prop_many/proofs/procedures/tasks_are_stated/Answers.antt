use Rattle.prop_many.proofs.Tables.{each_task_formed}
use Rattle.prop_many.proofs.procedures.tasks_are_stated.Goals as goal

pub returns-clause-formed : goal.returns-clause-formed
returns-clause-formed c = each_task_formed
