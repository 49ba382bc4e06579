use Rattle.std.proofs.Common.{◌<◌, length, sym, subst}
use Rattle.prop_contents.proofs.BearingLemmas.{AreAmong, bear_fewer, below_among}
use Rattle.prop_contents.proofs.entries.Entries.drop_from.Goals as goal

pub invariant_of-self : goal.invariant_of-self
invariant_of-self c =
    let n = c.self.inside in
    let within : c.args.cell < length n.cells.items = rw (← c.self.view_is) at c.requires in
    let among : AreAmong n.cells.items c.drop_from.new.contents.items =
    subst (AreAmong n.cells.items) (sym c.drop_from.ensures)
    (below_among c.args.premise n.cells.items c.args.cell within) in (
      bear_fewer 64 n.cells.items c.drop_from.new.contents.items n.blocks.items among c.self.invariant.0,
      bear_fewer 4_096 n.cells.items c.drop_from.new.contents.items n.regions.items among c.self.invariant.1,
    )
