use Rattle.std.proofs.Common.{◌≡◌, ◌+◌, ◌++◌, Some, arith, drop, rules, subst, sym, take}
use Rattle.std.proofs.lemmas.Grind.{common_steps}
use Rattle.prop_facts.specs.declared.fact.Literal.{Literal}
use Rattle.prop_refuting.specs.Nogoods.{ReplacesUnder, said_at}
use Rattle.prop_refuting.specs.Places.{kind_at_place}
use Rattle.prop_refuting.proofs.MeetLemmas.{read_at, read_is, resolved}
use Rattle.prop_refuting.proofs.StepLemmas.{nogood_says}
use Rattle.prop_refuting.proofs.nogood.Nogood.by_nogood.Goals as goal

pub returns-clause-resolves : goal.returns-clause-resolves
returns-clause-resolves c = λ library n choices y e k.
    let old = c.args.self.now in
    let other = c.args.other.now in
    let new = c.replace_under.new.self in
    let x = c.index-literals-at.result in
    let denied = c.index-literals-which.result in
    let rest = said_at x.place c.args.rest in
    let says = c.denial_says.ensures c.if-not-denial_says.false in
    let is_y = read_is old.literals c.literals.result.now c.args.at y x c.literals.ensures c.index-literals-at.is e in
    let P : Literal → Type 0 = λ z. kind_at_place n choices z.place ≡ Some c.args.kind in
    let under : ReplacesUnder old c.args.at (take c.args.which other.literals
    ++ drop (c.args.which + 1) other.literals ++ rest) other.premises new =
    first_of (search rules, grind (arith, common_steps)) in
    resolved library n choices c.args.at c.args.which rest old other new x denied
    (read_at old.literals c.literals.result.now c.args.at x c.literals.ensures c.index-literals-at.is c.requires.at)
    (read_at other.literals c.literals-2.result.now c.args.which denied c.literals-2.ensures c.index-literals-which.is
    c.requires.which)
    under
    (nogood_says library n choices x denied c.args.rest c.args.kind new.premises (subst P (sym is_y) k) says.0 says.1)
