use Rattle.std.proofs.Common.{sym}
use Rattle.prop_blaming.proofs.blamer.Blamer.answered.Goals as goal

pub returns-in-Some-clause-says : goal.returns-in-Some-clause-says
returns-in-Some-clause-says g c = rw (sym c.explore.ensures.same) c.text.ensures
