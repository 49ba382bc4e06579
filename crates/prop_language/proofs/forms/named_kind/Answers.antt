use Rattle.std.proofs.lemmas.Result.{err_from_is_err_and}
use Rattle.prop_language.specs.inner.Forms.{kind_word}
use Rattle.prop_language.specs.inner.Grammar.{kind_names}
use Rattle.prop_language.proofs.Forming.{first_unnamed, others_unnamed}
use Rattle.prop_language.proofs.forms.named_kind.Goals as goal

pub returns-in_err-name-clause-err : goal.returns-in_err-name-clause-err
returns-in_err-name-clause-err c =
    let p = err_from_is_err_and c.from_residual.result c.from_residual.ensures.1 in
    rw (p.1, p.2) (
      c.in_err-name.ensures.err.0,
      first_unnamed _ (kind_names (kind_word c.args.kind.now)) c.in_err-name.ensures.err.1,
    )

pub returns-in_err-kind_word-clause-err : goal.returns-in_err-kind_word-clause-err
returns-in_err-kind_word-clause-err c =
    let p = err_from_is_err_and c.from_residual-in_err-kind_word.result c.from_residual-in_err-kind_word.ensures.1 in
    rw (p.1, p.2) (
      c.in_err-kind_word.ensures.err.0,
      others_unnamed _ (kind_names (kind_word c.args.kind.now)) c.in_ok-name.ensures.ok.1
          c.in_err-kind_word.ensures.err.1,
    )
