use Rattle.prop_sets.specs.laws.OtherLaws.{without_monotone}
use Rattle.prop_sets.proofs.removal.others_are_monotone.Goals as goal

pub returns : goal.returns
returns c x y y' h = without_monotone y y' x h
