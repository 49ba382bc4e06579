use Rattle.std.proofs.Common.{inr, Some, None}
use Rattle.std.proofs.lemmas.Result.{err_from_is_err_and}
use Rattle.prop_language.specs.Tokens.{tokens}
use Rattle.prop_language.specs.inner.Parts.{front_words}
use Rattle.prop_language.proofs.Forming.{misread}
use Rattle.prop_language.proofs.StepLaws.{steps_misformed, names_refused, definition_read}
use Rattle.prop_language.proofs.steps.define.Goals as goal

pub returns-in_err-defined : goal.returns-in_err-defined
returns-in_err-defined c =
    let p = err_from_is_err_and c.from_residual.result c.from_residual.ensures.1 in
    rw (p.1, p.2) (inr (misread _ _ c.in_err-defined.ensures.err))

pub returns-in_err-steps : goal.returns-in_err-steps
returns-in_err-steps c =
    let p = err_from_is_err_and c.from_residual-in_err-steps.result c.from_residual-in_err-steps.ensures.1 in
    let d = c.in_ok-defined in
    rw (p.1, p.2) (steps_misformed (tokens c.args.rest.now) (tokens d.body.now) d.defined.now
    (front_words (tokens d.params.now)) _ d.ensures.ok c.in_err-steps.ensures.err)

pub returns-in_err-defined-2 : goal.returns-in_err-defined-2
returns-in_err-defined-2 c =
    let p = err_from_is_err_and c.from_residual-in_err-defined-2.result c.from_residual-in_err-defined-2.ensures.1 in
    let d = c.in_ok-defined in
    let s = c.in_ok-steps in
    rw (p.1, p.2) (names_refused (tokens c.args.rest.now) (tokens d.body.now) d.defined.now
    (front_words (tokens d.params.now)) s.steps.read.items s.steps.refused _ d.ensures.ok s.ensures.ok
    c.in_err-defined-2.ensures.err)

pub returns-in-None : goal.returns-in-None
returns-in-None c =
    let d = c.in_ok-defined in
    let s = c.in_ok-steps in
    let n = c.in_ok-defined-2.ensures.ok in
    rw (n.0, n.1) (definition_read (tokens c.args.rest.now) (tokens d.body.now) d.defined.now
    (front_words (tokens d.params.now)) s.steps.read.items None d.ensures.ok (rw c.in-None.is at s.ensures.ok) n.2)

pub returns : goal.returns
returns c =
    let d = c.in_ok-defined in
    let s = c.in_ok-steps in
    inr (definition_read (tokens c.args.rest.now) (tokens d.body.now) d.defined.now (front_words (tokens d.params.now))
    s.steps.read.items (Some c.in-Some.refusal) d.ensures.ok (rw c.in-Some.is at s.ensures.ok)
    c.in_ok-defined-2.ensures.ok.2)
