use Rattle.std.proofs.Common.{map, refl}
use Rattle.std.specs.List.{flat_map}
use Rattle.std.proofs.lemmas.Result.{err_from_is_err_and}
use Rattle.prop_language.specs.Said.{words, step_of}
use Rattle.prop_compound.specs.Defining.{locals_of}
use Rattle.prop_compound.proofs.Scoping.{repeat_still, taken_then, all_pushed, all_apart, all_why}
use Rattle.prop_compound.proofs.scope.push_names.Goals as goal

pub push_params-requires : goal.push_params-requires
push_params-requires c = rw c.requires refl

pub push_locals-requires : goal.push_locals-requires
push_locals-requires c = c.in_ok-push_params.ensures.apart

pub returns-in_err-push_params-clause-why : goal.returns-in_err-push_params-clause-why
returns-in_err-push_params-clause-why c =
    let p = err_from_is_err_and c.from_residual.result c.from_residual.ensures.1 in
    let why = rw c.requires at c.in_err-push_params.ensures.why in
    rw (p.1, p.2) (taken_then _ (repeat_still (words c.args.params.now)
    (flat_map locals_of (map step_of c.args.steps.now))) why)

pub returns-clause-ok : goal.returns-clause-ok
returns-clause-ok c =
    all_pushed c.push_locals.result c.args.scope.now c.push_params.new.scope c.push_locals.new.scope
    (words c.args.params.now) (flat_map locals_of (map step_of c.args.steps.now)) c.requires
    c.in_ok-push_params.ensures.ok c.push_locals.ensures.ok

pub returns-clause-apart : goal.returns-clause-apart
returns-clause-apart c =
    all_apart c.push_locals.result c.args.scope.now c.push_params.new.scope c.push_locals.new.scope
    (words c.args.params.now) (flat_map locals_of (map step_of c.args.steps.now)) c.requires
    c.in_ok-push_params.ensures.ok c.push_locals.ensures.ok c.push_locals.ensures.apart

pub returns-clause-why : goal.returns-clause-why
returns-clause-why c =
    all_why c.push_locals.result c.args.scope.now c.push_params.new.scope (words c.args.params.now)
    (flat_map locals_of (map step_of c.args.steps.now)) c.requires c.in_ok-push_params.ensures.ok
    c.push_locals.ensures.why
