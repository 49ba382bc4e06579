use Rattle.std.proofs.Common.{subst, sym}
use Rattle.prop_refuting.specs.Nogoods.{Nogood}
use Rattle.prop_deriving.specs.Known.{Follows}
use Rattle.prop_deriving.proofs.StayLemmas.{follows_along, follows_some}
use Rattle.prop_deriving.proofs.learning.Learning.of_end.Goals as goal

pub returns : goal.returns
returns g c library n choices root slots =
    let first = follows_some c.in_ok-derivation.field-0 c.in-Some.derivation c.in-Some.is c.in_ok-derivation.ensures in
    let P : Nogood → Type 0 = Follows library n choices root slots in
    subst P (sym c.suppose_first.ensures)
    (follows_along library n choices root slots c.in-Some.derivation c.in_ok-learning.learning
    (first library n choices root slots) (c.in_ok-learning.ensures library n choices root slots))
