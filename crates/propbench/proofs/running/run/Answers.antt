use Rattle.std.proofs.Common.{◌∙◌, arith, subst, List}
use Rattle.std.proofs.lemmas.Result.{err_from_is_err_and}
use Rattle.prop_procedures.specs.inner.Kept.{AllMean-push}
use Rattle.prop_procedures.specs.Stored.{Stored}
use Rattle.prop_arith.specs.Kit.{form_of, in_order}
use Rattle.prop_arith.specs.Prelude.{prelude_lines}
use Rattle.prop_arith.specs.Values.{value_of}
use Rattle.prop_arith.specs.laws.KitLaws.{kit_few}
use Rattle.prop_program.proofs.Listing.{stored_is, listed_more, all_listed}
use Rattle.prop_program.proofs.Starts.{served_by_fault, worked_by_fault}
use Rattle.prop_workbench.specs.Engine.{workbench}
use Rattle.prop_workbench.specs.Machine.{new_state}
use Rattle.propbench.specs.Kits.{kit}
use Rattle.propbench.proofs.running.run.Goals as goal

pub new-requires-in-loop-rule-clause-some_inputs : goal.new-requires-in-loop-rule-clause-some_inputs
new-requires-in-loop-rule-clause-some_inputs g c = rw (c.in_ok-ins.ensures.ok, c.ins.ensures) (kit_few _).0

pub new-requires-in-loop-rule-clause-few_inputs : goal.new-requires-in-loop-rule-clause-few_inputs
new-requires-in-loop-rule-clause-few_inputs g c = rw (c.in_ok-ins.ensures.ok, c.ins.ensures) (kit_few _).1

pub new-requires-in-loop-rule-clause-formed : goal.new-requires-in-loop-rule-clause-formed
new-requires-in-loop-rule-clause-formed g c = (c.in_ok-ins.ensures.ok ∙ c.ins.ensures, c.out.ensures, c.need.ensures)

pub loop-rule-preserved : goal.loop-rule-preserved
loop-rule-preserved g c =
    let p = c.new-in-loop-rule.ensures in
    let stored = stored_is form_of value_of c.new-in-loop-rule.result _ (p.name ∙ c.name.ensures)
    (p.ins ∙ c.in_ok-ins.ensures.ok ∙ c.ins.ensures) (p.out ∙ c.out.ensures) (p.need ∙ c.need.ensures) p.rule
    in record {
      means = AllMean-push value_of _ _ _ c.in_ok-push.ensures.items c.loop-rule.invariant.means p.means;
      listed = listed_more form_of value_of _ _ _ _ _ _ c.in_ok-push.ensures.items c.loop-rule-test.true stored
          c.loop-rule.invariant.listed;
    }

pub returns-in_err-ins-clause-answered : goal.returns-in_err-ins-clause-answered
returns-in_err-ins-clause-answered g c =
    let p = err_from_is_err_and c.from_residual.result c.from_residual.ensures.1 in
    served_by_fault g.D.Devices.calls _ (workbench kit) (new_state c.args.options.limit) prelude_lines _ p.0 p.1 p.2

pub returns-in_err-ins-clause-earned : goal.returns-in_err-ins-clause-earned
returns-in_err-ins-clause-earned g c =
    let p = err_from_is_err_and c.from_residual.result c.from_residual.ensures.1 in
    worked_by_fault g.D.Devices.calls _ c.args.options.order c.args.options.seed kit prelude_lines
    c.args.options.limit _ p.0 p.1 p.2

pub returns-in_err-call-clause-answered : goal.returns-in_err-call-clause-answered
returns-in_err-call-clause-answered g c =
    let p = err_from_is_err_and c.from_residual-in_err-call.result c.from_residual-in_err-call.ensures.1 in
    served_by_fault g.D.Devices.calls _ (workbench kit) (new_state c.args.options.limit) prelude_lines _ p.0 p.1 p.2

pub returns-in_err-call-clause-earned : goal.returns-in_err-call-clause-earned
returns-in_err-call-clause-earned g c =
    let p = err_from_is_err_and c.from_residual-in_err-call.result c.from_residual-in_err-call.ensures.1 in
    worked_by_fault g.D.Devices.calls _ c.args.options.order c.args.options.seed kit prelude_lines
    c.args.options.limit _ p.0 p.1 p.2

pub returns-in_err-push-clause-answered : goal.returns-in_err-push-clause-answered
returns-in_err-push-clause-answered g c =
    let p = err_from_is_err_and c.from_residual-in_err-push.result c.from_residual-in_err-push.ensures.1 in
    served_by_fault g.D.Devices.calls _ (workbench kit) (new_state c.args.options.limit) prelude_lines _ p.0 p.1 p.2

pub returns-in_err-push-clause-earned : goal.returns-in_err-push-clause-earned
returns-in_err-push-clause-earned g c =
    let p = err_from_is_err_and c.from_residual-in_err-push.result c.from_residual-in_err-push.ensures.1 in
    worked_by_fault g.D.Devices.calls _ c.args.options.order c.args.options.seed kit prelude_lines
    c.args.options.limit _ p.0 p.1 p.2

pub run-requires : goal.run-requires
run-requires g c = record { means = c.loop-rule.invariant.means }

pub returns-clause-answered : goal.returns-clause-answered
returns-clause-answered g c =
    let listed = c.loop-rule.invariant.listed ∙ all_listed form_of value_of in_order
    c.loop-rule.rule-index (omega (arith, c.loop-rule-test.false)) in
    rw (← listed) c.run.ensures.answered

pub returns-clause-earned : goal.returns-clause-earned
returns-clause-earned g c =
    let listed = c.loop-rule.invariant.listed ∙ all_listed form_of value_of in_order
    c.loop-rule.rule-index (omega (arith, c.loop-rule-test.false)) in
    rw (← listed) c.run.ensures.earned
