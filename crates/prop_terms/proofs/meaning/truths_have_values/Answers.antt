use Rattle.prop_terms.proofs.Truths.{truths}
use Rattle.prop_terms.proofs.meaning.truths_have_values.Goals as goal

pub returns : goal.returns
returns c = truths
