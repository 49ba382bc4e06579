use Rattle.std.proofs.Common.{ℕ, Bor, length}
use Rattle.std.proofs.lemmas.List.{length_push}
use Rattle.std.proofs.lemmas.Slice.Zip.{zip_turn}
use Rattle.prop_lattice.specs.declared.info.Info.{Info}
use Rattle.prop_refuting.proofs.RowLemmas.{parts_more}
use Rattle.prop_refuting.proofs.calls.push_parts.Goals as goal

pub loop-cell-preserved : goal.loop-cell-preserved
loop-cell-preserved c =
    let cells = c.args.cells.now in
    let args = c.args.args.now in
    let yielded = c.loop-cell.yielded in
    let pair : Bor ℕ × Bor Info = (c.in-Some.cell, c.in-Some.info) in
    let begun = c.into_iter-cell-iterator.result in
    let t = zip_turn cells args yielded begun c.loop-cell.cell-iterator c.next.new.self c.next.result (cc) (cc)
    c.loop-cell.yielded_by pair c.in-Some.is c.next.ensures.steps in
    parts_more c.args.literals.now.items c.loop-cell.literals.items c.push_said.new.literals.items
    c.push_said-in-loop-cell.new.literals.items cells args (length yielded) _ c.in-Some.cell.now c.in-Some.info.now
    c.parts-parts.result (length_push yielded pair) t.0 t.1 (t.2 c.in-Some.cell.now) (t.3 c.in-Some.info.now)
    c.parts-parts.ensures.parts c.loop-cell.invariant c.in_ok-push_said.ensures.ok c.in_ok-push_said-2.ensures.ok
