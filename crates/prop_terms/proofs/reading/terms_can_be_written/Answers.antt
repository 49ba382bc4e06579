use Rattle.prop_terms.proofs.Printed.{are_written}
use Rattle.prop_terms.proofs.reading.terms_can_be_written.Goals as goal

pub returns : goal.returns
returns c = are_written
