use Rattle.std.proofs.Common.{inr, ◌∷◌}
use Rattle.std.proofs.lemmas.Result.{err_from_is_err_and}
use Rattle.prop_language.specs.Tokens.{tokens}
use Rattle.prop_language.specs.inner.Parts.{before_by}
use Rattle.prop_language.proofs.Forming.{first_refused, others_refused}
use Rattle.prop_language.proofs.forms.used_names.Goals as goal

pub returns-in_err-used-clause-err : goal.returns-in_err-used-clause-err
returns-in_err-used-clause-err c =
    let p = err_from_is_err_and c.from_residual.result c.from_residual.ensures.1 in
    rw (p.1, p.2) (first_refused _ (c.args.first_two.1.now ∷ before_by (tokens c.args.rest.now)) _
    (inr c.in_err-used.ensures.err))

pub returns-in_err-names_before_by-clause-err : goal.returns-in_err-names_before_by-clause-err
returns-in_err-names_before_by-clause-err c =
    let p = err_from_is_err_and c.from_residual-in_err-names_before_by.result
    c.from_residual-in_err-names_before_by.ensures.1 in
    rw (p.1, p.2) (others_refused _ (c.args.first_two.1.now ∷ before_by (tokens c.args.rest.now)) _
    c.in_ok-used.ensures.ok.1 c.in_err-names_before_by.ensures.err)
