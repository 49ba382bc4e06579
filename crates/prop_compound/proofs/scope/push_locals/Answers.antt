use Rattle.std.proofs.Common.{◌∙◌, ap, ◌++◌}
use Rattle.std.specs.List.{flat_map}
use Rattle.std.proofs.lemmas.List.{take_all}
use Rattle.std.proofs.lemmas.List.Folds.{flat_map-map}
use Rattle.std.proofs.lemmas.Result.{err_from_is_err_and}
use Rattle.prop_language.specs.Said.{step_of}
use Rattle.prop_compound.specs.Defining.{locals_of}
use Rattle.prop_compound.proofs.Scoping.{locals_said, repeat_all, taken_then}
use Rattle.prop_compound.proofs.scope.push_locals.Goals as goal

pub returns-in_err-push_local-clause-why : goal.returns-in_err-push_local-clause-why
returns-in_err-push_local-clause-why c =
    let p = err_from_is_err_and c.from_residual.result c.from_residual.ensures.1 in
    let all = repeat_all locals_said c.args.steps.now c.loop-step.step-index c.step-item.result c.loop-step-test.true
    c.step-item.is c.args.scope.now c.loop-step.scope c.loop-step.invariant.is in
    rw (p.1, p.2, flat_map-map locals_of step_of c.args.steps.now) (taken_then _ all c.in_err-push_local.ensures.why)

pub returns-clause-ok : goal.returns-clause-ok
returns-clause-ok c =
    rw (flat_map-map locals_of step_of c.args.steps.now)
    (c.loop-step.invariant.is ∙ ap (λ steps. c.args.scope.now ++ flat_map locals_said steps)
    (take_all c.loop-step.step-index c.args.steps.now c.loop-step-test.false))
