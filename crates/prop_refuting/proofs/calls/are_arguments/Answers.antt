use Rattle.std.proofs.Common.{ℕ, Bor, length, subst, sym, ◌∙◌}
use Rattle.std.proofs.lemmas.Bool.{false≢true}
use Rattle.std.proofs.lemmas.List.{length_push}
use Rattle.std.proofs.lemmas.Slice.Zip.{zip_turn}
use Rattle.prop_lattice.specs.Rank.{IsOf}
use Rattle.prop_lattice.specs.declared.info.Info.{Info}
use Rattle.prop_procedures.specs.declared.shape.Kinded.{Kinded}
use Rattle.prop_refuting.proofs.RowLemmas.{arguments_more}
use Rattle.prop_refuting.proofs.calls.are_arguments.Goals as goal

pub loop-cell-preserved : goal.loop-cell-preserved
loop-cell-preserved c =
    let kinds = c.args.cells.now.kinds in
    let cells = c.args.inputs.now in
    let args = c.args.args.now in
    let yielded = c.loop-cell.yielded in
    let pair : Bor ℕ × Bor Info = (c.in-Some.cell, c.in-Some.info) in
    let begun = c.into_iter-cell-iterator.result in
    let t = zip_turn cells args yielded begun c.loop-cell.cell-iterator c.next.new.self c.next.result (cc) (cc)
    c.loop-cell.yielded_by pair c.in-Some.is c.next.ensures.steps in
    let P : Kinded → Type 0 = λ k. IsOf k.kind k.size c.in-Some.info.now in
    arguments_more kinds cells args (length yielded) _ c.in-Some.cell.now c.in-Some.info.now (length_push yielded pair)
    t.0 t.1 (t.2 c.in-Some.cell.now) (t.3 c.in-Some.info.now) c.loop-cell.invariant
    (subst P c.kind-kind.ensures (c.is_of.ensures.0 c.if-not-is_of.false))
    (λ q. false≢true (sym c.if-is_contradiction.false ∙ c.is_contradiction.ensures.1 q))
