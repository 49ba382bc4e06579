use Rattle.std.proofs.lemmas.Result.{err_from_is_err_and}
use Rattle.prop_language.specs.Tokens.{tokens}
use Rattle.prop_language.specs.Said.{words}
use Rattle.prop_language.specs.inner.Parts.{front_words}
use Rattle.prop_language.proofs.Forming.{element_refused}
use Rattle.prop_language.proofs.forms.names_of.Goals as goal

pub returns-in_err-push_name-clause-err : goal.returns-in_err-push_name-clause-err
returns-in_err-push_name-clause-err c =
    let p = err_from_is_err_and c.from_residual.result c.from_residual.ensures.1 in
    rw (p.1, p.2) (element_refused (words c.loop-word.found.items) c.in-Some-Word-default.word.now _ _
    (front_words (tokens c.args.bytes.now)) _
    (rw c.in-Some-Word-default.field-0-0-is at c.in-Some-Word-default.ensures.found) c.loop-word.invariant.all
    c.in_err-push_name.ensures.err)
