use Rattle.std.proofs.Common.{sym, subst}
use Rattle.prop_contents.proofs.BearingLemmas.{AreAmong, bear_fewer, taken_among}
use Rattle.prop_contents.proofs.entries.Entries.truncate.Goals as goal

pub invariant_of-self : goal.invariant_of-self
invariant_of-self c =
    let n = c.self.inside in
    let among : AreAmong n.cells.items c.truncate.new.self.items =
    subst (AreAmong n.cells.items) (sym c.truncate.ensures.items) (taken_among c.args.count n.cells.items) in (
      bear_fewer 64 n.cells.items c.truncate.new.self.items n.blocks.items among c.self.invariant.0,
      bear_fewer 4_096 n.cells.items c.truncate.new.self.items n.regions.items among c.self.invariant.1,
    )
