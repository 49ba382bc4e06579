use Rattle.std.proofs.Common.{[]}
use Rattle.prop_deriving.proofs.StayLemmas.{stays_from, stays_where}
use Rattle.prop_deriving.proofs.derivation.Derivation.drop_repeated.Goals as goal

pub returns : goal.returns
returns c = λ library n choices root slots.
    let old = c.self.inside.nogood in
    let new = c.drop_repeated.new.self in
    stays_from library n choices root slots c.args.self.now old new c.self.view_is
    (stays_where library n choices root slots c.drop_repeated.result c.args.at [] old new c.drop_repeated.ensures.still
    c.drop_repeated.ensures.step (c.drop_repeated.ensures.narrows library n choices))
