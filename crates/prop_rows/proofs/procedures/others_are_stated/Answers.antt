use Rattle.std.proofs.Common.{refl}
use Rattle.prop_rows.proofs.TableLemmas.{others_formed}
use Rattle.prop_rows.proofs.procedures.others_are_stated.Goals as goal

pub returns-clause-counts : goal.returns-clause-counts
returns-clause-counts c = refl

pub returns-clause-greatest : goal.returns-clause-greatest
returns-clause-greatest c = refl

pub returns-clause-least : goal.returns-clause-least
returns-clause-least c = refl

pub returns-clause-formed : goal.returns-clause-formed
returns-clause-formed c = others_formed
