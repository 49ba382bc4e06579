use Rattle.std.proofs.Common.{sym, subst}
use Rattle.prop_contents.proofs.BearingLemmas.{AreAmong, bear_fewer, forgotten_among}
use Rattle.prop_contents.proofs.DroppingLaws.{written_back}
use Rattle.prop_contents.proofs.entries.Entries.purge.Goals as goal

pub invariant_of-self : goal.invariant_of-self
invariant_of-self c =
    let n = c.self.inside in
    let back = written_back c.args.premise n.cells.items c.drop_entries.new.contents n.cells.len n.cells.ok.0
    (rw c.deref_mut.ensures.value at c.drop_entries.ensures) in
    let among = subst (AreAmong n.cells.items) (sym back) (forgotten_among c.args.premise n.cells.items) in (
      bear_fewer 64 n.cells.items _ n.blocks.items among c.self.invariant.0,
      bear_fewer 4_096 n.cells.items _ n.regions.items among c.self.invariant.1,
    )
