use Rattle.prop_vocabulary.proofs.PairLaws.{just_their_pairs}
use Rattle.prop_vocabulary.proofs.vocabulary.Vocabulary.relations_have_just_their_pairs.Goals as goal

pub returns : goal.returns
returns c = just_their_pairs
