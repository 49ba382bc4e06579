use Rattle.std.proofs.Common.{[], subst, arith}
use Rattle.prop_numbers.specs.Sets.{set_of}
use Rattle.prop_contents.proofs.BearingLemmas.{Agree, agree_none, not_true}
use Rattle.prop_contents.proofs.bearing.agree_at.Goals as goal

pub returns-in-Some : goal.returns-in-Some
returns-in-Some c = λ t.
    subst (Agree (set_of c.args.shift.now.before.now) (set_of c.args.shift.now.after.now))
    (c.in-Some.ensures.lookup.4 (omega arith) []) (c.differs_at.ensures.alike (not_true c.differs_at.result t))

pub returns-in-None : goal.returns-in-None
returns-in-None c = λ t.
    subst (Agree (set_of c.args.shift.now.before.now) (set_of c.args.shift.now.after.now))
    (c.in-None.ensures.lookup.4 (omega arith) [])
    (agree_none (set_of c.args.shift.now.before.now) (set_of c.args.shift.now.after.now))
