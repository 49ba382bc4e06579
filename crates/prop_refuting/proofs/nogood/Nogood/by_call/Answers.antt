use Rattle.std.proofs.Common.{◌++◌, arith, rules, sym, ◌∙◌}
use Rattle.std.proofs.lemmas.Grind.{common_steps}
use Rattle.prop_procedures.specs.Kept.{stored_of}
use Rattle.prop_plans.specs.Held.{attached_of}
use Rattle.prop_refuting.specs.Calls.{literals_of}
use Rattle.prop_refuting.specs.Nogoods.{Replaces, said_at}
use Rattle.prop_refuting.proofs.ExceptLemmas.{same_count}
use Rattle.prop_refuting.proofs.MeetLemmas.{read_at, replaced}
use Rattle.prop_refuting.proofs.StepLemmas.{call_says, instance_at, within_at}
use Rattle.prop_refuting.proofs.nogood.Nogood.by_call.Goals as goal

pub push_parts-requires : goal.push_parts-requires
push_parts-requires g c =
    let d = c.args.network.now.cells in
    let x = c.instance-x.result.now in
    let at = instance_at d c.data.result.now c.args.call.instance x c.data.ensures c.instance-x.ensures.at in
    rw c.inputs.ensures (same_count d.kinds x.inputs c.args.call.args.now
    (c.says.ensures c.if-not-says.false x at).arguments)

pub returns-clause-narrows : goal.returns-clause-narrows
returns-clause-narrows g c = λ choices.
    let library = stored_of g.R.Rule.value_of c.args.network.now.library in
    let d = c.args.network.now.cells in
    let old = c.args.self.now in
    let new = c.replace.new.self in
    let args = c.args.call.args.now in
    let rest = c.args.rest in
    let r = c.index-literals-at.result in
    let x = c.instance-x.result.now in
    let at = instance_at d c.data.result.now c.args.call.instance x c.data.ensures c.instance-x.ensures.at in
    let more = literals_of x.inputs args ++ said_at x.output rest in
    let place = sym c.if-output-literal.false ∙ c.output.ensures.at x at in
    let came : Replaces old c.args.at more new = first_of (search rules, grind (arith, common_steps)) in
    replaced library (attached_of d) choices c.args.at more old new r
    (read_at old.literals c.literals.result.now c.args.at r c.literals.ensures c.index-literals-at.is c.requires.at)
    came
    (call_says library (attached_of d) choices x args rest r new.premises
    (within_at library d c.requires.kept c.args.call.instance x at) place (c.says.ensures c.if-not-says.false x at))
