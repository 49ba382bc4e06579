use Rattle.std.proofs.Common.{◌≡◌, inr}
use Rattle.std.proofs.lemmas.Result.{err_from_is_err_and}
use Rattle.prop_language.specs.Tokens.{tokens}
use Rattle.prop_language.specs.inner.Forms.{step, use_step}
use Rattle.prop_language.proofs.StepLaws.{local_unnamed, local_named, like_unnamed, like_named, used_local, used_other}
use Rattle.prop_language.proofs.steps.step.Goals as goal
use Rattle.prop_language.proofs.steps.step.Goals.{in-Some+in_default-only_two_words+in_default-like_words, in_default}

pub returns-in_err-local-clause-err : goal.returns-in_err-local-clause-err
returns-in_err-local-clause-err c =
    let p = err_from_is_err_and c.from_residual.result c.from_residual.ensures.1 in
    rw (p.1, p.2) (inr (local_unnamed (tokens c.args.bytes.now) (tokens c.in-Some.rest.now) c.in-Ok.local.now
    c.in-Ok.kind.now _ (c.in-Some.ensures.found, c.in-Ok.ensures.ok) c.in_err-local.ensures.err))

pub returns-in-Ok-clause-ok : goal.returns-in-Ok-clause-ok
returns-in-Ok-clause-ok c =
    let n = c.in_ok-local.ensures.ok in
    rw n.0 (local_named (tokens c.args.bytes.now) (tokens c.in-Some.rest.now) c.in-Ok.local.now c.in-Ok.kind.now _
    (c.in-Some.ensures.found, c.in-Ok.ensures.ok) n.1 n.2)

pub returns-in_err-local-2-clause-err : goal.returns-in_err-local-2-clause-err
returns-in_err-local-2-clause-err c =
    let p = err_from_is_err_and c.from_residual-in_err-local-2.result c.from_residual-in_err-local-2.ensures.1 in
    let l = c.in-Some-like_words in
    rw (p.1, p.2) (inr (like_unnamed (tokens c.args.bytes.now) (tokens c.in-Some.rest.now) l.local.now l.like.now _
    (c.in-Some.ensures.found, c.in_default-only_two_words.ensures.err.1, l.ensures) c.in_err-local-2.ensures.err))

pub returns-in-Some-like_words-clause-ok : goal.returns-in-Some-like_words-clause-ok
returns-in-Some-like_words-clause-ok c =
    let l = c.in-Some-like_words in
    let n = c.in_ok-local-2.ensures.ok in
    rw (n.0, n.1) (like_named (tokens c.args.bytes.now) (tokens c.in-Some.rest.now) l.local.now l.like.now
    (c.in-Some.ensures.found, c.in_default-only_two_words.ensures.err.1, l.ensures) n.2)

pub returns : goal.returns
returns c =
    let used : step (tokens c.args.bytes.now) ≡ use_step (tokens c.args.bytes.now) = elim c.match-behind_word.branch [
      | in-Some+in_default-only_two_words+in_default-like_words w ↦
          used_local (tokens c.args.bytes.now) (tokens w.in-Some.rest.now)
          (w.in-Some.ensures.found, w.in_default-only_two_words.ensures.err.1, w.in_default-like_words.ensures)
      | in_default w ↦ used_other (tokens c.args.bytes.now) w.in_default.ensures.found
    ] in rw used c.use_step.ensures
