use Rattle.std.proofs.Common.{◌≡◌, map, Some}
use Rattle.prop_procedures.specs.Kept.{stored_of}
use Rattle.prop_language.specs.Said.{words, step_of}
use Rattle.prop_compound.specs.Defining.{define_refusal}
use Rattle.prop_compound.specs.Kinds.{IsSized}
use Rattle.prop_compound.proofs.Judging.{new_name}
use Rattle.prop_compound.proofs.Resolved.{pushed_new, pushed_over, pushed_locals, on_ok, or_memory}
use Rattle.std.proofs.lemmas.Result.{err_from_is_err_and}
use Rattle.prop_compound.proofs.definitions.Definitions.define.Goals as goal

pub returns-in_err-definition-clause-over : goal.returns-in_err-definition-clause-over
returns-in_err-definition-clause-over g c = c.requires.over

pub returns-in_err-definition-clause-err : goal.returns-in_err-definition-clause-err
returns-in_err-definition-clause-err g c =
    let p = err_from_is_err_and c.from_residual.result c.from_residual.ensures.1 in
    rw (p.1, p.2) c.in_err-definition.ensures.err

pub returns-in_err-definition-clause-locals : goal.returns-in_err-definition-clause-locals
returns-in_err-definition-clause-locals g c = λ locals. locals

pub push-requires-clause-new : goal.push-requires-clause-new
push-requires-clause-new g c =
    new_name (stored_of g.R.Rule.value_of c.args.library.now) c.args.words.now c.args.self.now c.args.name.now
    (words c.args.params.now) (map step_of c.args.steps.now) c.in_ok-definition.ensures.fits

pub push-requires-clause-kept : goal.push-requires-clause-kept
push-requires-clause-kept g c = c.in_ok-definition.ensures.kept

pub returns-clause-over : goal.returns-clause-over
returns-clause-over g c =
    pushed_over (stored_of g.R.Rule.value_of c.args.library.now) c.args.words.now c.args.self.now c.args.name.now
    (words c.args.params.now) (map step_of c.args.steps.now) c.in_ok-definition.definition
    c.in_ok-definition.ensures.definition c.push.result c.push.new.self c.in_ok-definition.ensures.over
    c.requires.over c.push.ensures.ok c.push.ensures.err_same

pub returns-clause-locals : goal.returns-clause-locals
returns-clause-locals g c =
    pushed_locals (IsSized c.args.words.now) c.args.self.now c.args.name.now c.in_ok-definition.definition
    c.in_ok-definition.ensures.locals c.push.result c.push.new.self c.push.ensures.ok c.push.ensures.err_same

pub returns-clause-fits : goal.returns-clause-fits
returns-clause-fits g c = on_ok c.push.result c.in_ok-definition.ensures.fits

pub returns-clause-ok : goal.returns-clause-ok
returns-clause-ok g c =
    pushed_new (stored_of g.R.Rule.value_of c.args.library.now) c.args.words.now c.args.self.now c.args.name.now
    (words c.args.params.now) (map step_of c.args.steps.now) c.in_ok-definition.definition
    c.in_ok-definition.ensures.definition c.push.result c.push.new.self c.push.ensures.ok

pub returns-clause-err : goal.returns-clause-err
returns-clause-err g c =
    let library = stored_of g.R.Rule.value_of c.args.library.now in
    let params = words c.args.params.now in
    let steps = map step_of c.args.steps.now in
    or_memory (λ e. define_refusal library c.args.words.now c.args.self.now c.args.name.now params steps ≡ Some e)
    c.push.result c.push.ensures.err

pub returns-clause-err_same : goal.returns-clause-err_same
returns-clause-err_same g c = c.push.ensures.err_same
