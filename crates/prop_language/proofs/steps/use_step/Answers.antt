use Rattle.std.proofs.Common.{◌≡◌, Ok, refl, inr}
use Rattle.std.proofs.lemmas.Result.{err_from_is_err_and}
use Rattle.prop_language.specs.Commands.{Passed}
use Rattle.prop_language.specs.Said.{passed_of}
use Rattle.prop_language.specs.inner.Parts.{passed_said, passed_in_range}
use Rattle.prop_language.specs.inner.Grammar.{passed_names, is_passed_in_range}
use Rattle.prop_language.proofs.Forming.{part_refused, part_judged, step_used, use_misformed, names_refused}
use Rattle.prop_language.proofs.Forming.{parameter_refused, use_read}
use Rattle.prop_language.proofs.steps.use_step.Goals as goal
use Rattle.prop_language.proofs.steps.use_step.Goals.{in-Said+in_ok-parameter-in-Said, in-Own}

pub returns-in_err-given-clause-err : goal.returns-in_err-given-clause-err
returns-in_err-given-clause-err c =
    let p = err_from_is_err_and c.from_residual-in_err-given.result c.from_residual-in_err-given.ensures.1 in
    let u = step_used _ _ _ _ c.in_ok-front.ensures.ok in
    rw (p.1, p.2) (inr (use_misformed passed_names is_passed_in_range _ _ _ _ _ u c.in_err-given.ensures.err))

pub returns-in_err-used-clause-err : goal.returns-in_err-used-clause-err
returns-in_err-used-clause-err c =
    let p = err_from_is_err_and c.from_residual-in_err-used.result c.from_residual-in_err-used.ensures.1 in
    let u = step_used _ _ _ _ c.in_ok-front.ensures.ok in
    rw (p.1, p.2) (names_refused passed_names is_passed_in_range _ _ _ _ _ _ u c.in_ok-given.ensures.ok
    c.in_err-used.ensures.err)

pub returns-in_err-parameter-in-Said-clause-err : goal.returns-in_err-parameter-in-Said-clause-err
returns-in_err-parameter-in-Said-clause-err c =
    let p = err_from_is_err_and c.from_residual-in_err-parameter-in-Said.result
    c.from_residual-in_err-parameter-in-Said.ensures.1 in
    let u = step_used _ _ _ _ c.in_ok-front.ensures.ok in
    let given = rw c.in-Said.is at c.in_ok-given.ensures.ok in
    rw (p.1, p.2) (inr (parameter_refused passed_names is_passed_in_range _ _ _ _ _ _ u given c.in_ok-used.ensures.ok.2
    (part_refused _ _ _ _ _ c.in_err-parameter-in-Said.ensures.err)))

pub returns-clause-ok : goal.returns-clause-ok
returns-clause-ok c =
    let u = step_used _ _ _ _ c.in_ok-front.ensures.ok in
    let n = c.in_ok-used.ensures.ok in
    let right : passed_in_range (passed_said c.in_ok-given.given) ≡ Ok (passed_of c.match-given.passed) =
    elim c.match-given.branch [
      | in-Said+in_ok-parameter-in-Said w ↦
          rw (w.in-Said.is, w.passed-is) (part_judged _ _ _ _ Passed.Said w.in_ok-parameter-in-Said.ensures.ok)
      | in-Own w ↦ rw (w.in-Own.is, w.passed-is) refl
    ] in
    rw (n.0, n.1) (use_read passed_names is_passed_in_range _ _ _ _ _ _ u c.in_ok-given.ensures.ok n.2 right)
