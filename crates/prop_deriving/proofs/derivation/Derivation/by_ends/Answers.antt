use Rattle.prop_deriving.proofs.StayLemmas.{literal_at, stays_by, stays_from, stays_narrowed}
use Rattle.prop_deriving.proofs.derivation.Derivation.by_ends.Goals as goal

pub returns : goal.returns
returns c = λ library n choices root slots.
    let old = c.self.inside.nogood in
    let new = c.by_ends.new.self in
    let x = literal_at c.args.self.now old c.args.at c.self.view_is c.requires.at in
    stays_from library n choices root slots c.args.self.now old new c.self.view_is
    (stays_by library n choices root slots c.by_ends.result old new c.by_ends.ensures.err c.by_ends.ensures.still
    (λ t. stays_narrowed library n choices root slots old new (c.by_ends.ensures.narrows library n choices)
    (c.by_ends.ensures.step t x.0 x.1).replaced.premises))
