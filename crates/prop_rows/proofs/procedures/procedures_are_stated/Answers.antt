use Rattle.std.proofs.Common.{refl}
use Rattle.prop_rows.proofs.TableLemmas.{all_formed}
use Rattle.prop_rows.proofs.procedures.procedures_are_stated.Goals as goal

pub returns-clause-stated : goal.returns-clause-stated
returns-clause-stated c = refl

pub returns-clause-formed : goal.returns-clause-formed
returns-clause-formed c = all_formed
