use Rattle.std.proofs.Common.{◌/◌}
use Rattle.prop_contents.proofs.BearingLemmas.{bear_same, bear_united, bear_added, united}
use Rattle.prop_contents.proofs.entries.Entries.add.Goals as goal

pub invariant_of-self : goal.invariant_of-self
invariant_of-self c =
    let n = c.self.inside in (
      c.self.invariant.0,
      bear_same 4_096 n.cells.items n.regions.items c.bear.new.sets.items c.in_err-bear.ensures.err c.self.invariant.1,
    )

pub invariant_of-self-2 : goal.invariant_of-self-2
invariant_of-self-2 c =
    let n = c.self.inside in
    let blocks = bear_united 64 n.cells.items n.blocks.items c.bear-2.new.sets.items (c.args.cell / 64) c.args.support
    c.in_ok-bear-2.ensures.ok c.self.invariant.0 in
    let regions = bear_united 4_096 n.cells.items n.regions.items c.bear.new.sets.items (c.args.cell / 4_096)
    c.args.support c.in_ok-bear.ensures.ok c.self.invariant.1 in (
      bear_added 64 n.cells.items c.add_to.new.contents.items c.bear-2.new.sets.items c.args.cell _
          c.in_ok-add_to.ensures.ok
          (united n.blocks.items c.bear-2.new.sets.items (c.args.cell / 64) c.args.support c.in_ok-bear-2.ensures.ok)
          blocks,
      bear_added 4_096 n.cells.items c.add_to.new.contents.items c.bear.new.sets.items c.args.cell _
          c.in_ok-add_to.ensures.ok
          (united n.regions.items c.bear.new.sets.items (c.args.cell / 4_096) c.args.support c.in_ok-bear.ensures.ok)
          regions,
    )
