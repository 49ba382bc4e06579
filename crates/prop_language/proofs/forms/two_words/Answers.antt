use Rattle.std.proofs.Common.{ap}
use Rattle.std.proofs.lemmas.Result.{err_from_is_err_and}
use Rattle.std.specs.Option.{option_and_then}
use Rattle.prop_language.specs.inner.Parts.{front}
use Rattle.prop_language.proofs.Forming.{lacks_second_word}
use Rattle.prop_language.proofs.forms.two_words.Goals as goal

pub returns-in_err-first-clause-err : goal.returns-in_err-first-clause-err
returns-in_err-first-clause-err c =
    let p = err_from_is_err_and c.from_residual.result c.from_residual.ensures.1 in
    rw (p.1, p.2) (
      c.in_err-first.ensures.err.0,
      ap (option_and_then (λ found. front found.1)) c.in_err-first.ensures.err.1,
    )

pub returns-in_err-second-clause-err : goal.returns-in_err-second-clause-err
returns-in_err-second-clause-err c =
    let p = err_from_is_err_and c.from_residual-in_err-second.result c.from_residual-in_err-second.ensures.1 in
    rw (p.1, p.2) (
      c.in_err-second.ensures.err.0,
      lacks_second_word _ _ _ c.in_ok-first.ensures.ok c.in_err-second.ensures.err.1,
    )
