use Rattle.std.proofs.Common.{◌<◌, [], arith, length}
use Rattle.prop_numbers.specs.Sets.{set_of}
use Rattle.prop_cells.proofs.Founding.{believed_entailed}
use Rattle.prop_procedures.specs.Kept.{stored_of}
use Rattle.prop_refuting.proofs.MeetLemmas.{read_at}
use Rattle.prop_refuting.proofs.StepLemmas.{given_narrows}
use Rattle.prop_refuting.proofs.nogood.Nogood.by_given.Goals as goal

pub returns-clause-narrows : goal.returns-clause-narrows
returns-clause-narrows g c = λ choices.
    let library = stored_of g.R.Rule.value_of c.args.network.now.library in
    let d = c.args.network.now.cells in
    let old = c.args.self.now in
    let x = c.index-literals-at.result in
    let within : x.place < length d.kinds = omega arith in
    given_narrows library d choices old c.drop_at.new.self c.args.at x c.belief-given.result c.requires.kept
    (read_at old.literals c.literals.result.now c.args.at x c.literals.ensures c.index-literals-at.is c.requires.at)
    within (rw c.belief-given.ensures (rw c.empty.ensures
    (believed_entailed library d (set_of []) c.requires.kept x.place)))
    (c.follows_from.ensures.0 c.if-not-follows_from.false)
    c.drop_at.ensures
