use Rattle.std.proofs.Common.{refl}
use Rattle.prop_procedures.specs.Kept.{stored_of}
use Rattle.prop_refuting.proofs.StepLemmas.{arguments_at, call_answers, call_fits, call_within, instance_at}
use Rattle.prop_refuting.proofs.calls.answer.Goals as goal

pub call-requires-clause-call : goal.call-requires-clause-call
call-requires-clause-call g c =
    let d = c.args.network.now.cells in
    let x = c.instance-x.result.now in
    rw (c.library.ensures, c.procedure.ensures, c.param.ensures)
    (call_fits (stored_of g.R.Rule.value_of c.args.network.now.library) d c.requires.kept c.args.instance x
    (instance_at d c.data.result.now c.args.instance x c.data.ensures c.instance-x.ensures.at) c.args.args.now
    (arguments_at d c.data-2.result.now x.inputs c.inputs.result.now c.args.args.now c.data-2.ensures c.inputs.ensures
    (c.if-not-are_arguments.ensures refl)))

pub call-requires-clause-in_range : goal.call-requires-clause-in_range
call-requires-clause-in_range g c =
    let d = c.args.network.now.cells in
    let x = c.instance-x.result.now in
    rw (c.library.ensures, c.procedure.ensures)
    (call_within (stored_of g.R.Rule.value_of c.args.network.now.library) d c.requires.kept c.args.instance x
    (instance_at d c.data.result.now c.args.instance x c.data.ensures c.instance-x.ensures.at))

pub returns : goal.returns
returns g c = λ y at.
    let d = c.args.network.now.cells in
    let x = c.instance-x.result.now in
    rw (c.call.ensures, c.library.ensures, c.procedure.ensures, c.param.ensures)
    (call_answers (stored_of g.R.Rule.value_of c.args.network.now.library) d c.requires.kept c.args.instance x
    (instance_at d c.data.result.now c.args.instance x c.data.ensures c.instance-x.ensures.at) y c.args.args.now at
    (arguments_at d c.data-2.result.now x.inputs c.inputs.result.now c.args.args.now c.data-2.ensures c.inputs.ensures
    (c.if-not-are_arguments.ensures refl)))
