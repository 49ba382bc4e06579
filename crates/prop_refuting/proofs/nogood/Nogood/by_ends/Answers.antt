use Rattle.std.proofs.Common.{◌∷◌, [], arith, rules}
use Rattle.std.proofs.lemmas.Grind.{common_steps}
use Rattle.prop_facts.specs.declared.fact.Fact.TheVariants.{AtLeast, AtMost}
use Rattle.prop_refuting.specs.Nogoods.{Replaces}
use Rattle.prop_refuting.proofs.MeetLemmas.{read_at}
use Rattle.prop_refuting.proofs.StepLemmas.{ends_narrow}
use Rattle.prop_refuting.proofs.nogood.Nogood.by_ends.Goals as goal

pub returns-clause-narrows : goal.returns-clause-narrows
returns-clause-narrows c = λ library n choices.
    let old = c.args.self.now in
    let new = c.replace.new.self in
    let x = c.index-literals-at.result in
    let m = c.in-Is.n in
    let both : Replaces old c.args.at (record { place = x.place; fact = AtLeast m }
    ∷ record { place = x.place; fact = AtMost m } ∷ []) new =
    first_of (search rules, grind (arith, common_steps)) in
    ends_narrow library n choices old new c.args.at x
    (read_at old.literals c.literals.result.now c.args.at x c.literals.ensures c.index-literals-at.is c.requires.at)
    (record { number = m; is = c.in-Is.is; replaced = both })
