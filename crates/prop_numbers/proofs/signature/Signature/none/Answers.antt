use Rattle.prop_numbers.proofs.SignatureLemmas.{none_left}
use Rattle.prop_numbers.proofs.signature.Signature.none.Goals as goal

pub returns : goal.returns
returns c = none_left
