use Rattle.prop_many.proofs.Tables.{each_circuit_formed}
use Rattle.prop_many.proofs.procedures.circuits_are_stated.Goals as goal

pub returns-clause-formed : goal.returns-clause-formed
returns-clause-formed c = each_circuit_formed
