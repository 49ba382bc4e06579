use Rattle.std.proofs.Common.{◌-◌, ap, arith, length}
use Rattle.std.proofs.lemmas.List.{length_push}
use Rattle.prop_vocabulary.proofs.Places.{cell_noted}
use Rattle.prop_vocabulary.proofs.cells.push_cell.Goals as goal

pub returns-clause-firsts : goal.returns-clause-firsts
returns-clause-firsts c = rw (c.in_ok-push.ensures.items)
    (cell_noted c.args.firsts.now.items c.make_room.new.firsts.items c.note.new.firsts.items c.args.cells.now.items
    c.args.cell (c.len.result - 1) c.requires c.in_ok-make_room.ensures.same
    (omega (
      arith,
      c.len.ensures,
      c.push.new.self.ok.0,
      ap length c.in_ok-push.ensures.items,
      length_push c.args.cells.now.items c.args.cell,
    )) c.note.ensures.first c.note.ensures.again c.note.ensures.others)
