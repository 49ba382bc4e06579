use Rattle.std.proofs.Common.{inr}
use Rattle.std.proofs.lemmas.Result.{err_from_is_err_and}
use Rattle.prop_language.specs.Tokens.{tokens}
use Rattle.prop_language.specs.inner.Grammar.{by_names, is_by_in_range}
use Rattle.prop_language.proofs.Forming.{misread, no_attach, attach_used, use_misformed, names_refused}
use Rattle.prop_language.proofs.Forming.{parameter_refused, use_read}
use Rattle.prop_language.proofs.forms.attach.Goals as goal

pub returns-in_err-front : goal.returns-in_err-front
returns-in_err-front c =
    let p = err_from_is_err_and c.from_residual.result c.from_residual.ensures.1 in
    rw (p.1, p.2) (inr (misread _ _ (
      c.in_err-front.ensures.err.0,
      no_attach (tokens c.args.rest.now) c.in_err-front.ensures.err.1,
    )))

pub returns-in_err-by : goal.returns-in_err-by
returns-in_err-by c =
    let p = err_from_is_err_and c.from_residual-in_err-by.result c.from_residual-in_err-by.ensures.1 in
    let u = attach_used _ _ _ _ c.in_ok-front.ensures.ok in
    rw (p.1, p.2) (inr (use_misformed by_names is_by_in_range _ _ _ _ _ u c.in_err-by.ensures.err))

pub returns-in_err-procedure : goal.returns-in_err-procedure
returns-in_err-procedure c =
    let p = err_from_is_err_and c.from_residual-in_err-procedure.result c.from_residual-in_err-procedure.ensures.1 in
    let u = attach_used _ _ _ _ c.in_ok-front.ensures.ok in
    rw (p.1, p.2) (names_refused by_names is_by_in_range _ _ _ _ _ _ u c.in_ok-by.ensures.ok
    c.in_err-procedure.ensures.err)

pub returns-in_err-parameter : goal.returns-in_err-parameter
returns-in_err-parameter c =
    let p = err_from_is_err_and c.from_residual-in_err-parameter.result c.from_residual-in_err-parameter.ensures.1 in
    let u = attach_used _ _ _ _ c.in_ok-front.ensures.ok in
    rw (p.1, p.2) (inr (parameter_refused by_names is_by_in_range _ _ _ _ _ _ u c.in_ok-by.ensures.ok
    c.in_ok-procedure.ensures.ok.2 c.in_err-parameter.ensures.err))

pub returns : goal.returns
returns c =
    let u = attach_used _ _ _ _ c.in_ok-front.ensures.ok in
    let n = c.in_ok-procedure.ensures.ok in
    rw (n.0, n.1) (use_read by_names is_by_in_range _ _ _ _ _ _ u c.in_ok-by.ensures.ok n.2
    c.in_ok-parameter.ensures.ok)
