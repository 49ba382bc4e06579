use Rattle.std.proofs.Common.{inr}
use Rattle.std.proofs.lemmas.Result.{err_from_is_err_and}
use Rattle.prop_program.proofs.Taken.{passes_of, refused_by, matches_of_program, out_of_range}
use Rattle.prop_program.proofs.options.read.Goals as goal

pub returns-in_err-matches-clause-err : goal.returns-in_err-matches-clause-err
returns-in_err-matches-clause-err c = λ name same.
    let p = err_from_is_err_and c.from_residual.result c.from_residual.ensures.1 in
    refused_by _ name _ _ _ p.1 p.2 (passes_of _ name _ c.in_err-matches.field-0.0 same c.in_err-matches.ensures.passes)

pub returns-in_err-error-in-Err-clause-err : goal.returns-in_err-error-in-Err-clause-err
returns-in_err-error-in-Err-clause-err c = λ name same. out_of_range _ name _ record {
  entries = c.in_ok-matches.matches;
  of_words = matches_of_program _ name _ _ same c.in_ok-matches.ensures.ok.2;
  wrong = c.in-Err.ensures.err;
}

pub returns-in_ok-error-in-Err-clause-err : goal.returns-in_ok-error-in-Err-clause-err
returns-in_ok-error-in-Err-clause-err c = λ name same taken. inr record {
  entries = c.in_ok-matches.matches;
  of_words = matches_of_program _ name _ _ same c.in_ok-matches.ensures.ok.2;
  wrong = c.in-Err.ensures.err;
}

pub returns-in-Ok-clause-ok : goal.returns-in-Ok-clause-ok
returns-in-Ok-clause-ok c = λ name same. record {
  entries = c.in_ok-matches.matches;
  of_words = matches_of_program _ name _ _ same c.in_ok-matches.ensures.ok.2;
  chosen = c.in-Ok.ensures.ok;
}

pub returns-in_ok-error-in-Err-clause-why : goal.returns-in_ok-error-in-Err-clause-why
returns-in_ok-error-in-Err-clause-why c = λ name same. inr (inr (
  c.in_ok-error-in-Err.ensures.kind,
  record {
    entries = c.in_ok-matches.matches;
    of_words = matches_of_program _ name _ _ same c.in_ok-matches.ensures.ok.2;
    wrong = c.in-Err.ensures.err;
  },
))
