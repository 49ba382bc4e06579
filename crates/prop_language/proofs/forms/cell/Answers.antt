use Rattle.std.proofs.Common.{inr}
use Rattle.std.proofs.lemmas.Result.{err_from_is_err_and}
use Rattle.prop_language.proofs.Forming.{misread, cell_unnamed, cell_read}
use Rattle.prop_language.proofs.forms.cell.Goals as goal

pub returns-in_err-cell-clause-read : goal.returns-in_err-cell-clause-read
returns-in_err-cell-clause-read c =
    let p = err_from_is_err_and c.from_residual.result c.from_residual.ensures.1 in
    rw (p.1, p.2) (inr (misread _ _ c.in_err-cell.ensures.err))

pub returns-in_err-cell-2-clause-read : goal.returns-in_err-cell-2-clause-read
returns-in_err-cell-2-clause-read c =
    let p = err_from_is_err_and c.from_residual-in_err-cell-2.result c.from_residual-in_err-cell-2.ensures.1 in
    rw (p.1, p.2) (inr (cell_unnamed _ _ _ _ c.in_ok-cell.ensures.ok c.in_err-cell-2.ensures.err))

pub returns-clause-read : goal.returns-clause-read
returns-clause-read c =
    let n = c.in_ok-cell-2.ensures.ok in
    rw n.0 (cell_read _ _ _ _ c.in_ok-cell.ensures.ok n.1 n.2)
