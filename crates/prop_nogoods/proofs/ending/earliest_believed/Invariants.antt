use Rattle.std.proofs.Common.{take, All}
use Rattle.prop_numbers.specs.Sets.{set_of}
use Rattle.prop_nogoods.proofs.EndingLemmas.{EndsBelow}
use Rattle.prop_nogoods.proofs.ending.earliest_believed.Given as goal

abbrev pub invariant-loop-ending : goal.invariant-loop-ending
invariant-loop-ending l = All (EndsBelow (set_of l.worldview) l.from) (take l.ending-index l.behind)
