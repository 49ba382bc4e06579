use Rattle.prop_refuting.proofs.MeetLemmas.{read_at, repeated_narrows}
use Rattle.prop_refuting.proofs.nogood.Nogood.drop_repeated.Goals as goal

pub returns-clause-narrows : goal.returns-clause-narrows
returns-clause-narrows c = λ library n choices.
    let old = c.args.self.now.literals in
    let x = c.index-literals-at.result in
    let y = c.index-literals-other.result in
    repeated_narrows library n choices c.args.self.now c.drop_at.new.self c.args.at c.args.other x y
    (read_at old c.literals.result.now c.args.at x c.literals.ensures c.index-literals-at.is c.requires.at)
    (read_at old c.literals-2.result.now c.args.other y c.literals-2.ensures c.index-literals-other.is c.requires.other)
    c.if-at-other.false c.if-kept-literal.false (c.implies.ensures c.if-not-implies.false) c.drop_at.ensures
