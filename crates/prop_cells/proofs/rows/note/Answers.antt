use Rattle.std.proofs.Common.{◌≡◌, ◌<◌, ◌∙◌, ◌++◌, ◌∷◌, [], length, get_or, vec_capacity, refl, sym, arith}
use Rattle.std.proofs.lemmas.Grind.{common_steps}
use Rattle.std.proofs.lemmas.Option.{slice_get_read}
use Rattle.prop_cells.proofs.RowLemmas.{as_many, among_again, changed_again, changed_row, room_left}
use Rattle.prop_cells.proofs.rows.note.Goals as goal

pub loop-i-preserved-then-is_again : goal.loop-i-preserved-then-is_again
loop-i-preserved-then-is_again c =
    let there = sym c.is_again.ensures ∙ c.if-is_again.true in
    record {
      noted = changed_again (λ r. r ++ c.args.number ∷ []) _ _ c.args.cells.now c.loop-i.i c.loop-i-test.true
          c.loop-i.invariant.noted there;
      room = λ cell absent has. c.loop-i.invariant.room cell
          (sym (among_again c.args.cells.now c.loop-i.i cell c.loop-i-test.true there) ∙ absent) has;
    }

pub index_mut-requires : goal.index_mut-requires
index_mut-requires c =
    let same = as_many c.loop-i.rows.items c.args.rows.now.items c.loop-i.invariant.noted.count in
    omega (arith, same, c.loop-i.rows.ok, c.requires.cells c.loop-i.i 0 c.loop-i-test.true)

pub loop-i-preserved : goal.loop-i-preserved
loop-i-preserved c =
    let rows = c.loop-i.rows.items in
    let i = c.loop-i.i in
    let row = c.index_mut.result.now in
    let same = as_many rows c.args.rows.now.items c.loop-i.invariant.noted.count in
    let l : get_or c.args.cells.now i 0 < length rows = omega (arith, same, c.requires.cells i 0 c.loop-i-test.true) in
    let absent = sym c.is_again.ensures ∙ c.if-is_again.false in
    let room : length row.items < vec_capacity row =
    c.loop-i.invariant.room (get_or c.args.cells.now i 0) absent (c.requires.room i 0 c.loop-i-test.true) row
    (slice_get_read rows (length rows) (get_or c.args.cells.now i 0) row refl l c.index_mut.ensures.value) in
    let pushed : c.push.new.self.items ≡ row.items ++ c.args.number ∷ [] =
    grind (arith, common_steps, room, c.push.ensures.items, c.push.ensures.succeeds, row.ok) in
    record {
      noted = changed_row (λ r. r ++ c.args.number ∷ []) _ rows c.args.cells.now i row c.push.new.self
          c.loop-i-test.true l absent c.index_mut.ensures.value pushed c.loop-i.invariant.noted;
      room = λ cell absent has. room_left rows c.args.cells.now i cell c.push.new.self c.loop-i-test.true l absent
          (λ before. c.loop-i.invariant.room cell before has);
    }
