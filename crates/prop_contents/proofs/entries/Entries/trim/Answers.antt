use Rattle.prop_numbers.specs.Sets.{set_of}
use Rattle.prop_contents.proofs.BearingLemmas.{bear_fewer, trimmed_among}
use Rattle.prop_contents.proofs.entries.Entries.trim.Goals as goal

pub invariant_of-self : goal.invariant_of-self
invariant_of-self c =
    let n = c.self.inside in
    let among = trimmed_among (set_of c.args.worldview.now) (set_of c.args.told.now) n.cells.items
    c.trim_at.new.contents.items c.args.cell c.trim_at.ensures.trims in (
      bear_fewer 64 n.cells.items c.trim_at.new.contents.items n.blocks.items among c.self.invariant.0,
      bear_fewer 4_096 n.cells.items c.trim_at.new.contents.items n.regions.items among c.self.invariant.1,
    )
