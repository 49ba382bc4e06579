use Rattle.std.proofs.Common.{[], ◌∷◌}
use Rattle.prop_deriving.proofs.StayLemmas.{follows_clashing}
use Rattle.prop_deriving.proofs.derivation.Derivation.clashing.Goals as goal

pub returns : goal.returns
returns c = λ library n choices root slots.
    follows_clashing library n choices root slots c.in_ok-nogood.field-0 c.in-Some.nogood c.new.result
    (record { place = c.args.place; fact = c.args.pair.one } ∷ record { place = c.args.place; fact = c.args.pair.other }
    ∷ []) c.in-Some.is c.new.ensures c.in_ok-nogood.ensures.facts c.in_ok-nogood.ensures.never
