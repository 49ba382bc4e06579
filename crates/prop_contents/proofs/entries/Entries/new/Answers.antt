use Rattle.std.proofs.Common.{[]}
use Rattle.prop_contents.proofs.BearingLemmas.{bear_equal, bear_none}
use Rattle.prop_contents.proofs.entries.Entries.new.Goals as goal

pub invariant_of-result : goal.invariant_of-result
invariant_of-result c = (
  bear_equal 64 [] c.new.result.items c.new-2.result.items c.new.ensures.items (bear_none 64 c.new-2.result.items),
  bear_equal 4_096 [] c.new.result.items c.new-3.result.items c.new.ensures.items
      (bear_none 4_096 c.new-3.result.items),
)
