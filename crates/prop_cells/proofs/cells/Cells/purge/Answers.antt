use Rattle.prop_cells.specs.inner.Rooms.{row_items}
use Rattle.prop_cells.proofs.ForgettingLaws.{stored_forgotten}
use Rattle.prop_cells.proofs.cells.Cells.purge.Goals as goal

pub invariant_of-self : goal.invariant_of-self
invariant_of-self c =
    let old = c.self.inside in
    rw (c.purge.ensures, c.drop_statements.ensures)
    (stored_forgotten c.args.premise _ (row_items old.readers.items) (row_items old.writers.items) old.told.items
    c.self.invariant)
