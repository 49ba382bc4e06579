use Rattle.std.proofs.Common.{◌∙◌}
use Rattle.prop_numbers.proofs.OneLemmas.{one_single}
use Rattle.prop_numbers.proofs.number_set.NumberSet.single.Goals as goal

pub returns : goal.returns
returns c = c.of_one.ensures.same ∙ rw (c.place_of.ensures, c.bit_of.ensures) (one_single c.args.number)
