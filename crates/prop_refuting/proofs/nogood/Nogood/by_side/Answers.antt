use Rattle.std.proofs.Common.{◌∷◌, ℕ, arith, rules, subst, sym}
use Rattle.std.proofs.lemmas.Grind.{common_steps}
use Rattle.prop_plans.specs.Held.{attached_of}
use Rattle.prop_refuting.specs.Nogoods.{Replaces, said_at}
use Rattle.prop_refuting.proofs.MeetLemmas.{read_at, replaced}
use Rattle.prop_refuting.proofs.StepLemmas.{contains_get, side_says}
use Rattle.prop_refuting.proofs.nogood.Nogood.by_side.Goals as goal

pub returns-clause-narrows : goal.returns-clause-narrows
returns-clause-narrows c = λ library.
    let n = attached_of c.args.cells.now in
    let choices = c.args.choices.now in
    let old = c.args.self.now in
    let new = c.replace.new.self in
    let rest = c.args.rest in
    let r = c.index-literals-at.result in
    let x = c.index-statements-statement.result in
    let taken = c.in-Some.taken in
    let place = sym c.if-said-literal.false in
    let came : Replaces old c.args.at (taken ∷ said_at r.place rest) new =
    first_of (search rules, grind (arith, common_steps)) in
    let P : ℕ → Type 0 = λ k. Replaces old c.args.at (taken ∷ said_at k rest) new in
    let stated = contains_get n.statements c.args.statement x
    (read_at n.statements c.statements.result.now c.args.statement x c.statements.ensures
    c.index-statements-statement.is c.requires.statement) in
    replaced library n choices c.args.at (taken ∷ said_at x.cell rest) old new r
    (read_at old.literals c.literals.result.now c.args.at r c.literals.ensures c.index-literals-at.is c.requires.at)
    (subst P place came)
    (side_says library n choices x taken r rest c.narrowed.result new.premises stated c.in-Some.ensures.cell place
    c.in-Some.ensures.side c.narrowed.ensures (c.follows_from.ensures.0 c.if-not-follows_from.false))
