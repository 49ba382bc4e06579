use Rattle.prop_sets.proofs.TieLemmas.{tied-added, adds-pair}
use Rattle.prop_sets.proofs.rows.Rows.set.Goals as goal

pub invariant_of-self : goal.invariant_of-self
invariant_of-self c =
    let old = c.self.inside in
    let first = rw (← c.self.view_is) at c.requires.first in
    let second = rw (← c.self.view_is) at c.requires.second in
    rw (c.set_bit.ensures, c.set_bit-2.ensures)
    (tied-added old.from.size old.to.size old.rows.items old.columns.items c.args.i c.args.j first second
    c.self.invariant)

pub returns-clause-pairs : goal.returns-clause-pairs
returns-clause-pairs c =
    let old = c.self.inside in
    let first = rw (← c.self.view_is) at c.requires.first in
    let second = rw (← c.self.view_is) at c.requires.second in
    rw (← c.self.view_is, c.set_bit.ensures)
    (adds-pair (record { from = old.from; to = old.to; rows = old.rows.items }) c.args.i c.args.j first second
    c.self.invariant.height_is)
