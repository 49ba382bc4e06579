use Rattle.std.proofs.Common.{◌≡◌, ◌<◌, ◌∙◌, ◌-◌, length, get_or, take, sym, ap, arith}
use Rattle.prop_cells.proofs.RowLemmas.{as_many, changed_again, changed_row}
use Rattle.prop_cells.proofs.rows.take_back.Goals as goal

pub loop-i-preserved-then-is_again : goal.loop-i-preserved-then-is_again
loop-i-preserved-then-is_again c =
    changed_again (λ r. take (length r - 1) r) _ _ c.args.cells.now c.loop-i.i c.loop-i-test.true c.loop-i.invariant
    (sym c.is_again.ensures ∙ c.if-is_again.true)

pub index_mut-requires : goal.index_mut-requires
index_mut-requires c =
    let same = as_many c.loop-i.rows.items c.args.rows.now.items c.loop-i.invariant.count in
    omega (arith, same, c.loop-i.rows.ok, c.requires c.loop-i.i 0 c.loop-i-test.true)

pub loop-i-preserved : goal.loop-i-preserved
loop-i-preserved c =
    let rows = c.loop-i.rows.items in
    let i = c.loop-i.i in
    let row = c.index_mut.result.now in
    let same = as_many rows c.args.rows.now.items c.loop-i.invariant.count in
    let l : get_or c.args.cells.now i 0 < length rows = omega (arith, same, c.requires i 0 c.loop-i-test.true) in
    let absent = sym c.is_again.ensures ∙ c.if-is_again.false in
    let popped : c.pop.new.self.items ≡ take (length row.items - 1) row.items = c.pop.ensures.rest
    ∙ ap (λ n. take (n - 1) row.items) row.ok.0 in
    changed_row (λ r. take (length r - 1) r) _ rows c.args.cells.now i row c.pop.new.self c.loop-i-test.true l absent
    c.index_mut.ensures.value popped c.loop-i.invariant
