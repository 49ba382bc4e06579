use Rattle.prop_deriving.proofs.StayLemmas.{literal_at, stays_by, stays_from, stays_narrowed}
use Rattle.prop_deriving.proofs.derivation.Derivation.by_holes.Goals as goal

pub returns-in-AtLeast-Span : goal.returns-in-AtLeast-Span
returns-in-AtLeast-Span c = λ library n choices root slots.
    let old = c.self.inside.nogood in
    let new = c.by_holes.new.self in
    let x = literal_at c.args.self.now old c.args.at c.self.view_is c.requires.at in
    stays_from library n choices root slots c.args.self.now old new c.self.view_is
    (stays_by library n choices root slots c.by_holes.result old new c.by_holes.ensures.err c.by_holes.ensures.still
    (λ t. stays_narrowed library n choices root slots old new (c.by_holes.ensures.narrows library n choices)
    (c.by_holes.ensures.step t x.0 x.1).replaced.premises))

pub returns-in-AtMost-Span : goal.returns-in-AtMost-Span
returns-in-AtMost-Span c = λ library n choices root slots.
    let old = c.self.inside.nogood in
    let by = c.by_holes-in-AtMost-Span in
    let new = by.new.self in
    let x = literal_at c.args.self.now old c.args.at c.self.view_is c.requires.at in
    stays_from library n choices root slots c.args.self.now old new c.self.view_is
    (stays_by library n choices root slots by.result old new by.ensures.err by.ensures.still
    (λ t. stays_narrowed library n choices root slots old new (by.ensures.narrows library n choices)
    (by.ensures.step t x.0 x.1).replaced.premises))
