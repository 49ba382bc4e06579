use Rattle.std.proofs.Common.{◌≡◌, ap, Err, inr}
use Rattle.std.proofs.lemmas.Result.{err_from_is_err_and}
use Rattle.prop_language.specs.Tokens.{tokens}
use Rattle.prop_refusals.specs.declared.refusal.Refusal.TheVariants.{Memory}
use Rattle.prop_language.proofs.Forming.{opened_behind, misread, no_tell, nothing_told, tell_unnamed, tell_read}
use Rattle.prop_language.proofs.forms.tell.Goals as goal

pub returns-in_err-premise-clause-read : goal.returns-in_err-premise-clause-read
returns-in_err-premise-clause-read c =
    let p = err_from_is_err_and c.from_residual.result c.from_residual.ensures.1 in
    rw (p.1, p.2) (inr (misread _ _ (
      c.in_err-premise.ensures.err.0,
      no_tell (tokens c.args.rest.now) c.in_err-premise.ensures.err.1,
    )))

pub returns-in_err-value-clause-read : goal.returns-in_err-value-clause-read
returns-in_err-value-clause-read c =
    let p = err_from_is_err_and c.from_residual-in_err-value.result c.from_residual-in_err-value.ensures.1 in
    rw (p.1, p.2) (nothing_told _ _ _ _ _ c.in_ok-premise.ensures.ok c.in_err-value.ensures.err)

pub returns-in_err-value-clause-memory : goal.returns-in_err-value-clause-memory
returns-in_err-value-clause-memory c =
    let p = err_from_is_err_and c.from_residual-in_err-value.result c.from_residual-in_err-value.ensures.1 in
    rw (p.1, p.2) (λ none.
    let lacking : c.in_err-value.field-0.0 ≡ Memory = cc in
    opened_behind _ _ _ _ c.in_ok-premise.ensures.ok (c.in_err-value.ensures.memory (ap Err lacking)))

pub returns-in_err-premise-2-clause-read : goal.returns-in_err-premise-2-clause-read
returns-in_err-premise-2-clause-read c =
    let p = err_from_is_err_and c.from_residual-in_err-premise-2.result c.from_residual-in_err-premise-2.ensures.1 in
    rw (p.1, p.2) (inr (tell_unnamed _ _ _ _ _ _ c.in_ok-premise.ensures.ok c.in_ok-value.ensures.ok
    c.in_err-premise-2.ensures.err))

pub returns-clause-read : goal.returns-clause-read
returns-clause-read c =
    let n = c.in_ok-premise-2.ensures.ok in
    rw (n.0, n.1) (tell_read _ _ _ _ _ c.in_ok-premise.ensures.ok c.in_ok-value.ensures.ok n.2)
