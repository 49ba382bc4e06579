use Rattle.std.proofs.Common.{inr}
use Rattle.std.proofs.lemmas.Result.{err_from_is_err_and}
use Rattle.prop_language.specs.Tokens.{tokens}
use Rattle.prop_language.specs.inner.Parts.{front_words}
use Rattle.prop_language.proofs.Forming.{first_refused, others_refused}
use Rattle.prop_language.proofs.forms.listed_names.Goals as goal

pub returns-in_err-first-clause-err : goal.returns-in_err-first-clause-err
returns-in_err-first-clause-err c =
    let p = err_from_is_err_and c.from_residual.result c.from_residual.ensures.1 in
    rw (p.1, p.2) (first_refused _ (front_words (tokens c.args.bytes.now)) _ (inr c.in_err-first.ensures.err))

pub returns-in_err-names_of-clause-err : goal.returns-in_err-names_of-clause-err
returns-in_err-names_of-clause-err c =
    let p = err_from_is_err_and c.from_residual-in_err-names_of.result c.from_residual-in_err-names_of.ensures.1 in
    rw (p.1, p.2) (others_refused _ (front_words (tokens c.args.bytes.now)) _ c.in_ok-first.ensures.ok.1
    c.in_err-names_of.ensures.err)
