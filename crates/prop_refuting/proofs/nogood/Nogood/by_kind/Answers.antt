use Rattle.std.proofs.Common.{[], sym, ◌∙◌}
use Rattle.prop_plans.specs.Held.{attached_of}
use Rattle.prop_refuting.proofs.MeetLemmas.{read_at, replaced}
use Rattle.prop_refuting.proofs.StepLemmas.{kind_says}
use Rattle.prop_refuting.proofs.nogood.Nogood.by_kind.Goals as goal

pub returns-clause-narrows : goal.returns-clause-narrows
returns-clause-narrows c = λ library.
    let n = attached_of c.args.cells.now in
    let choices = c.args.choices.now in
    let old = c.args.self.now in
    let x = c.index-literals-at.result in
    replaced library n choices c.args.at [] old c.drop_at.new.self x
    (read_at old.literals c.literals.result.now c.args.at x c.literals.ensures c.index-literals-at.is c.requires)
    c.drop_at.ensures
    (kind_says library n choices x c.in-Some.kind c.widest.result c.drop_at.new.self.premises
    (sym c.kind_at_place.ensures ∙ c.in-Some.is) c.widest.ensures
    (c.follows_from.ensures.0 c.if-not-follows_from.false))
