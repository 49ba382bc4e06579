use Rattle.std.proofs.Common.{arith, refl}
use Rattle.std.proofs.lemmas.Grind.{common_steps}
use Rattle.prop_refuting.proofs.MeetLemmas.{clash_never}
use Rattle.prop_refuting.proofs.beginnings.clashing.Goals as goal

pub returns-clause-never : goal.returns-clause-never
returns-clause-never c = λ library n choices.
    clash_never library n choices c.new.result c.args.one c.args.other c.args.place (c.if-not-bars.ensures refl)
    (grind (arith, common_steps))
