use Rattle.prop_hall.proofs.UnknownLemmas as lemmas
use Rattle.prop_hall.proofs.excluding.unknown_says_nothing.Goals as goal

pub returns : goal.returns
returns c = lemmas.unknown_says_nothing
