use Rattle.std.proofs.Common.{◌++◌, Some, arith, rules}
use Rattle.std.proofs.lemmas.Grind.{common_steps}
use Rattle.prop_plans.specs.Held.{attached_of}
use Rattle.prop_refuting.specs.Nogoods.{Replaces, said_at}
use Rattle.prop_refuting.proofs.MeetLemmas.{read_at, replaced}
use Rattle.prop_refuting.proofs.StepLemmas.{barred_says, contains_get}
use Rattle.prop_refuting.proofs.nogood.Nogood.by_barred_side.Goals as goal

pub returns-clause-narrows : goal.returns-clause-narrows
returns-clause-narrows c = λ library.
    let n = attached_of c.args.cells.now in
    let choices = c.args.choices.now in
    let old = c.args.self.now in
    let new = c.replace.new.self in
    let rest = c.args.rest in
    let barred = c.args.barred.fact in
    let r = c.index-literals-at.result in
    let x = c.index-statements-barred.result in
    let more = said_at x.cell (Some barred) ++ said_at r.place rest in
    let came : Replaces old c.args.at more new = first_of (search rules, grind (arith, common_steps)) in
    let stated = contains_get n.statements c.args.barred.statement x
    (read_at n.statements c.statements.result.now c.args.barred.statement x c.statements.ensures
    c.index-statements-barred.is c.requires.statement) in
    let yes = c.if-not-barred_side_says.false in
    replaced library n choices c.args.at more old new r
    (read_at old.literals c.literals.result.now c.args.at r c.literals.ensures c.index-literals-at.is c.requires.at)
    came
    (barred_says library n choices x r barred rest new.premises stated (c.barred_side_says.ensures.cell yes)
    (c.barred_side_says.ensures.says yes) (c.is_barred_by.ensures.0 c.if-not-is_barred_by.false))
