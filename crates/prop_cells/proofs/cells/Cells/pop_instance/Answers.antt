use Rattle.std.proofs.Common.{◌≡◌, ◌++◌, ◌∷◌, []}
use Rattle.prop_cells.specs.inner.Rooms.{row_items, TakenBack}
use Rattle.prop_cells.proofs.Backing.{stored_taken_back}
use Rattle.prop_cells.proofs.cells.Cells.pop_instance.Goals as goal

pub invariant_of-self-2 : goal.invariant_of-self-2
invariant_of-self-2 c =
    let n = c.self.inside in
    let x = c.in-Some.x in
    let popped : n.instances.items ≡ c.pop.new.self.items ++ x ∷ [] = c.in-Some.ensures.items in
    let read : TakenBack (row_items n.readers.items) (row_items c.take_back.new.rows.items) x.inputs =
    rw c.inputs.ensures at c.take_back.ensures in
    let written : TakenBack (row_items n.writers.items) (row_items c.take_back-2.new.rows.items) (x.output ∷ []) =
    rw c.output.ensures at c.take_back-2.ensures in
    stored_taken_back _ _ _ _ _ _ x read written (rw popped at c.self.invariant)
