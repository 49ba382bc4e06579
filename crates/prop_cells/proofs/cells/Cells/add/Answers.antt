use Rattle.prop_cells.proofs.Making.{stored_add}
use Rattle.prop_cells.proofs.cells.Cells.add.Goals as goal

pub invariant_of-self-2 : goal.invariant_of-self-2
invariant_of-self-2 c = stored_add _ _ _ _ _ _ _ (rw (← c.self.view_is) at c.requires.of_kind) c.in_ok-add.ensures.ok
    c.self.invariant
