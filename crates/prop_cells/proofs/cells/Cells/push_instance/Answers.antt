use Rattle.std.proofs.Common.{◌≡◌, ◌∙◌, ◌++◌, ◌∷◌, [], length, ap, arith}
use Rattle.std.proofs.lemmas.Grind.{common_steps}
use Rattle.prop_cells.specs.Instances.{IsWithin}
use Rattle.prop_cells.specs.inner.Rooms.{row_items, Noted}
use Rattle.prop_cells.proofs.Making.{stored_instance}
use Rattle.prop_cells.proofs.cells.Cells.push_instance.Goals as goal

pub invariant_of-self-2 : goal.invariant_of-self-2
invariant_of-self-2 c =
    let n = c.self.inside in
    let x = c.args.x in
    let room = c.reserve.new.self in
    let pushed : c.push.new.self.items ≡ n.instances.items ++ x ∷ [] =
    grind (
      arith,
      common_steps,
      c.push.ensures.items,
      c.push.ensures.succeeds,
      c.in_default.ensures.ok,
      c.in_default.ensures.items,
      n.instances.ok,
      room.ok,
    ) in
    let number : c.len-number.result ≡ length n.instances.items = c.len-number.ensures ∙ room.ok.0
    ∙ ap length c.in_default.ensures.items in
    let within : IsWithin (length n.kinds.items) x = rw (← c.self.view_is) at c.requires in
    let read : Noted (row_items n.readers.items) (row_items c.note.new.rows.items) x.inputs c.len-number.result =
    rw (c.make_room.ensures.kept, c.inputs-2.ensures) at c.note.ensures in
    let written : Noted (row_items n.writers.items) (row_items c.note-2.new.rows.items) (x.output ∷ [])
    c.len-number.result = rw (c.make_room-2.ensures.kept, c.output-2.ensures) at c.note-2.ensures in
    rw pushed (stored_instance _ _ _ (row_items c.note.new.rows.items) (row_items c.note-2.new.rows.items) _ x
    c.len-number.result within number read written c.self.invariant)
