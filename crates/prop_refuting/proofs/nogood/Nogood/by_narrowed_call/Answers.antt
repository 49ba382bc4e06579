use Rattle.std.proofs.Common.{arith, rules, sym, ◌∙◌}
use Rattle.std.proofs.lemmas.Grind.{common_steps}
use Rattle.prop_procedures.specs.Kept.{stored_of}
use Rattle.prop_plans.specs.Held.{attached_of}
use Rattle.prop_refuting.specs.Calls.{literals_but}
use Rattle.prop_refuting.specs.Nogoods.{Replaces}
use Rattle.prop_refuting.proofs.ExceptLemmas.{excepts_say}
use Rattle.prop_refuting.proofs.MeetLemmas.{read_at, replaced}
use Rattle.prop_refuting.proofs.StepLemmas.{instance_at, within_at}
use Rattle.prop_refuting.proofs.nogood.Nogood.by_narrowed_call.Goals as goal

pub returns-clause-narrows : goal.returns-clause-narrows
returns-clause-narrows g c = λ choices.
    let library = stored_of g.R.Rule.value_of c.args.network.now.library in
    let d = c.args.network.now.cells in
    let old = c.args.self.now in
    let new = c.replace.new.self in
    let args = c.args.call.args.now in
    let r = c.index-literals-at.result in
    let x = c.instance-x.result.now in
    let at = instance_at d c.data.result.now c.args.call.instance x c.data.ensures c.instance-x.ensures.at in
    let more = literals_but c.args.place x.inputs args in
    let place = sym c.if-output-literal.false ∙ c.output.ensures.at x at in
    let came : Replaces old c.args.at more new = first_of (search rules, grind (arith, common_steps)) in
    replaced library (attached_of d) choices c.args.at more old new r
    (read_at old.literals c.literals.result.now c.args.at r c.literals.ensures c.index-literals-at.is c.requires.at)
    came
    (excepts_say library (attached_of d) choices x args c.args.place r new.premises
    (within_at library d c.requires.kept c.args.call.instance x at) place
    (c.takes_away.ensures c.if-not-takes_away.false x at))
