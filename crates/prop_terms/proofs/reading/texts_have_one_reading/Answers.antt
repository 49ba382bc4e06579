use Rattle.prop_terms.proofs.Complete.{have_one_reading}
use Rattle.prop_terms.proofs.reading.texts_have_one_reading.Goals as goal

pub returns : goal.returns
returns c = have_one_reading
