use Rattle.std.proofs.Common.{◌<◌, arith, length}
use Rattle.prop_procedures.specs.Kept.{stored_of}
use Rattle.prop_plans.proofs.Planned.{one_more}
use Rattle.prop_plans.proofs.looking.first_unmet.Goals as goal

pub loop-number-preserved : goal.loop-number-preserved
loop-number-preserved g c =
    let d = c.args.network.now.cells in
    let library = stored_of g.R.Rule.value_of c.args.network.now.library in
    let within : c.loop-number.number < length d.instances = omega arith in
    one_more library d c.args.values.now c.loop-number.number within c.loop-number.invariant
    (λ x at. (c.is_met.ensures x at).0 c.if-not-is_met.false)
