use Rattle.std.proofs.Common.{◌∷◌, []}
use Rattle.std.proofs.lemmas.Result.{err_from_is_err_and}
use Rattle.prop_language.proofs.Forming.{first_unnamed, others_unnamed}
use Rattle.prop_language.proofs.forms.two_names.Goals as goal

pub returns-in_err-name-clause-err : goal.returns-in_err-name-clause-err
returns-in_err-name-clause-err c =
    let p = err_from_is_err_and c.from_residual.result c.from_residual.ensures.1 in
    rw (p.1, p.2) (c.in_err-name.ensures.err.0, first_unnamed _ (c.args.second.now ∷ []) c.in_err-name.ensures.err.1)

pub returns-in_err-name-2-clause-err : goal.returns-in_err-name-2-clause-err
returns-in_err-name-2-clause-err c =
    let p = err_from_is_err_and c.from_residual-in_err-name-2.result c.from_residual-in_err-name-2.ensures.1 in
    rw (p.1, p.2) (
      c.in_err-name-2.ensures.err.0,
      others_unnamed _ (c.args.second.now ∷ []) c.in_ok-name.ensures.ok.1
          (first_unnamed _ [] c.in_err-name-2.ensures.err.1),
    )
