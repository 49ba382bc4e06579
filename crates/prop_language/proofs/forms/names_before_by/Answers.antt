use Rattle.std.proofs.Common.{◌∷◌}
use Rattle.std.proofs.lemmas.Result.{err_from_is_err_and}
use Rattle.prop_language.specs.Tokens.{tokens}
use Rattle.prop_language.specs.Said.{words}
use Rattle.prop_language.specs.inner.Parts.{before_by}
use Rattle.prop_language.proofs.Forming.{first_refused, name_refused}
use Rattle.prop_language.proofs.forms.names_before_by.Goals as goal

pub returns-in_err-push_name-clause-err : goal.returns-in_err-push_name-clause-err
returns-in_err-push_name-clause-err c =
    let p = err_from_is_err_and c.from_residual.result c.from_residual.ensures.1 in
    rw (p.1, p.2) (first_refused _ _ _ c.in_err-push_name.ensures.err)

pub returns-in_err-push_name-2-clause-err : goal.returns-in_err-push_name-2-clause-err
returns-in_err-push_name-2-clause-err c =
    let p = err_from_is_err_and c.from_residual-in_err-push_name-2.result c.from_residual-in_err-push_name-2.ensures.1
    in
    rw (p.1, p.2) (name_refused (words c.loop-word.names.items) c.in-Some-Word-default.word.now _ _ _
    (c.args.first.now ∷ before_by (tokens c.args.rest.now)) _
    (rw c.in-Some-Word-default.field-0-0-is at c.in-Some-Word-default.ensures.found) c.as_slice.ensures c.if-eq.ensures
    c.loop-word.invariant.all c.in_err-push_name-2.ensures.err)
