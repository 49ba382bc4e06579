use Rattle.std.proofs.Common.{◌≡◌, ◌∙◌, sym, ap, take}
use Rattle.std.proofs.lemmas.List.{take-map}
use Rattle.prop_cells.specs.inner.Rooms.{row_items}
use Rattle.prop_cells.proofs.Backing.{stored_taken}
use Rattle.prop_cells.proofs.cells.Cells.keep_cells.Goals as goal

pub invariant_of-self : goal.invariant_of-self
invariant_of-self c =
    let n = c.self.inside in
    let made = rw (← c.self.view_is) at c.requires in
    let reading : row_items c.truncate-3.new.self.items ≡ take c.args.count (row_items n.readers.items) =
    ap row_items c.truncate-3.ensures.items ∙ sym (take-map (λ row. row.items) c.args.count n.readers.items) in
    let writing : row_items c.truncate-4.new.self.items ≡ take c.args.count (row_items n.writers.items) =
    ap row_items c.truncate-4.ensures.items ∙ sym (take-map (λ row. row.items) c.args.count n.writers.items) in
    rw (c.truncate.ensures.items, c.truncate-2.ensures, reading, writing, c.truncate-5.ensures.items)
    (stored_taken _ _ _ _ c.args.count made c.self.invariant)
