use Rattle.std.proofs.Common.{inr}
use Rattle.std.proofs.lemmas.Result.{err_from_is_err_and}
use Rattle.prop_language.specs.Tokens.{tokens}
use Rattle.prop_language.proofs.Forming.{misread}
use Rattle.prop_language.proofs.Choosing.{no_choice, nothing_chosen, choice_unnamed, choice_read}
use Rattle.prop_language.proofs.choices.choose.Goals as goal

pub returns-in_err-choice : goal.returns-in_err-choice
returns-in_err-choice c =
    let p = err_from_is_err_and c.from_residual.result c.from_residual.ensures.1 in
    rw (p.1, p.2) (inr (misread _ _ (
      c.in_err-choice.ensures.err.0,
      no_choice (tokens c.args.rest.now) c.in_err-choice.ensures.err.1,
    )))

pub returns-in_err-values : goal.returns-in_err-values
returns-in_err-values c =
    let p = err_from_is_err_and c.from_residual-in_err-values.result c.from_residual-in_err-values.ensures.1 in
    rw (p.1, p.2) (nothing_chosen _ _ _ _ _ c.in_ok-choice.ensures.ok c.in_err-values.ensures.err)

pub returns-in_err-choice-2 : goal.returns-in_err-choice-2
returns-in_err-choice-2 c =
    let p = err_from_is_err_and c.from_residual-in_err-choice-2.result c.from_residual-in_err-choice-2.ensures.1 in
    rw (p.1, p.2) (inr (choice_unnamed _ _ _ _ _ _ c.in_ok-choice.ensures.ok c.in_ok-values.ensures.ok
    c.in_err-choice-2.ensures.err))

pub returns : goal.returns
returns c =
    let n = c.in_ok-choice-2.ensures.ok in
    rw (n.0, n.1) (choice_read _ _ _ _ _ c.in_ok-choice.ensures.ok c.in_ok-values.ensures.ok n.2)
