use Rattle.prop_refusals.proofs.RefusalLemmas.{numbers_tell_apart}
use Rattle.prop_refusals.proofs.refusal.Refusal.numbers_tell_apart.Goals as goal

pub returns : goal.returns
returns c = numbers_tell_apart
