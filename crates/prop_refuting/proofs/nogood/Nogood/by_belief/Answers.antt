use Rattle.std.proofs.Common.{◌<◌, arith, length}
use Rattle.prop_procedures.specs.Kept.{stored_of}
use Rattle.prop_refuting.proofs.MeetLemmas.{read_at}
use Rattle.prop_refuting.proofs.StepLemmas.{belief_narrows}
use Rattle.prop_refuting.proofs.nogood.Nogood.by_belief.Goals as goal

pub returns-clause-narrows : goal.returns-clause-narrows
returns-clause-narrows g c = λ choices.
    let library = stored_of g.R.Rule.value_of c.args.network.now.library in
    let d = c.args.network.now.cells in
    let old = c.args.self.now in
    let x = c.index-literals-at.result in
    let why = c.in_ok-why.why in
    let within : x.place < length d.kinds = omega arith in
    belief_narrows library d choices old c.replace_under.new.self c.args.at why.support x why.value c.requires.kept
    (read_at old.literals c.literals.result.now c.args.at x c.literals.ensures c.index-literals-at.is c.requires.at)
    within c.in_ok-why.ensures.explains.entails (c.follows_from.ensures.0 c.if-not-follows_from.false)
    c.in_ok-replace_under.ensures.ok
