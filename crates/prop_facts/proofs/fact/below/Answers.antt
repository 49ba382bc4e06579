use Rattle.prop_facts.proofs.FactLemmas.{ones_below, ones_below_64, shifted_one}
use Rattle.prop_facts.proofs.fact.below.Goals as goal

pub returns-then-size-lt-BITS : goal.returns-then-size-lt-BITS
returns-then-size-lt-BITS c = ones_below c.args.size _ (shifted_one c.args.size c.if-size-lt-BITS.true)

pub returns-else-size-lt-BITS : goal.returns-else-size-lt-BITS
returns-else-size-lt-BITS c = ones_below_64 c.args.size c.requires c.if-size-lt-BITS.false
