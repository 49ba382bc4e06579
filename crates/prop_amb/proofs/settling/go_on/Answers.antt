use Rattle.prop_numbers.specs.Sets.{set_of}
use Rattle.prop_amb.specs.Resolving.{IsReason}
use Rattle.prop_amb.proofs.DecidingLaws.{goes_by}
use Rattle.prop_amb.proofs.settling.go_on.Goals as goal

pub step-requires : goal.step-requires
step-requires c = rw c.in-Against.is at c.in_ok-shown.ensures.step

pub returns-clause-search : goal.returns-clause-search
returns-clause-search c problem learned =
    let same = c.found.ensures.same in
    let reason : IsReason problem c.found.new.search c.in-Against.place (set_of c.in-Against.reason) =
    rw c.in-Against.is at (c.in_ok-shown.ensures.resolved problem (rw same learned)) in
    c.step.ensures.search problem reason (rw same learned)

pub returns-clause-moves : goal.returns-clause-moves
returns-clause-moves c = λ moved.
    rw c.found.ensures.same at (goes_by c.found.new.search c.step.new.self c.in-Against.place c.in-Against.reason
    c.in_ok-step-in-Against.ensures.ok)
