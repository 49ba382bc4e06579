use Rattle.std.proofs.Common.{refl}
use Rattle.prop_procedures.specs.Kept.{stored_of}
use Rattle.prop_compound.specs.Expanding.{is_param_wrong}
use Rattle.prop_compound.specs.Flattened.{placed_of}
use Rattle.prop_compound.proofs.Firsts.{found_here, not_yet, none_found, misgiven_is}
use Rattle.prop_compound.proofs.fitting.has_param_wrong.Goals as goal

pub loop-instance-init : goal.loop-instance-init
loop-instance-init g c = refl

pub returns-then-is_param_wrong : goal.returns-then-is_param_wrong
returns-then-is_param_wrong g c =
    let library = stored_of g.R.Rule.value_of c.args.library.now in
    let x = c.instance-item.result in
    found_here c.args.instances.now c.loop-instance.instance-index x c.loop-instance-test.true c.instance-item.is
    (λ x. is_param_wrong library (placed_of c.args.params.now x)) c.is_param_wrong.result
    (misgiven_is library (placed_of c.args.params.now x) _ c.get.ensures c.is_param_wrong.result c.need-need.result
    c.need-need.ensures c.is_param_wrong.ensures) c.if-is_param_wrong.true

pub loop-instance-preserved : goal.loop-instance-preserved
loop-instance-preserved g c =
    let library = stored_of g.R.Rule.value_of c.args.library.now in
    let x = c.instance-item.result in
    not_yet c.args.instances.now c.loop-instance.instance-index x c.loop-instance-test.true c.instance-item.is
    (λ x. is_param_wrong library (placed_of c.args.params.now x)) c.is_param_wrong.result
    (misgiven_is library (placed_of c.args.params.now x) _ c.get.ensures c.is_param_wrong.result c.need-need.result
    c.need-need.ensures c.is_param_wrong.ensures) c.if-is_param_wrong.false c.loop-instance.invariant

pub returns : goal.returns
returns g c =
    none_found (λ x. is_param_wrong (stored_of g.R.Rule.value_of c.args.library.now) (placed_of c.args.params.now x))
    c.args.instances.now c.loop-instance.instance-index c.loop-instance-test.false c.loop-instance.invariant
