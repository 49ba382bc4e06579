use Rattle.prop_terms.proofs.Rounding.{rounded_down}
use Rattle.prop_terms.proofs.meaning.quotients_are_rounded_down.Goals as goal

pub returns : goal.returns
returns c = rounded_down
