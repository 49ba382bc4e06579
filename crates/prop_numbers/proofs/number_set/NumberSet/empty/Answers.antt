use Rattle.std.proofs.Common.{◌∙◌, refl, []}
use Rattle.prop_numbers.proofs.WordLemmas.{numbers_from-none}
use Rattle.prop_numbers.proofs.number_set.NumberSet.empty.Goals as goal

pub returns : goal.returns
returns c = c.of_one.ensures.same ∙ numbers_from-none 0 0 [] refl refl
