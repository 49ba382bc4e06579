use Rattle.prop_numbers.specs.Sets.{set_of}
use Rattle.prop_tms.proofs.BeliefUses.{ok_within, ok_says}
use Rattle.prop_tms.proofs.tms.Tms.strongest.Goals as goal

pub returns-clause-believed : goal.returns-clause-believed
returns-clause-believed g c = ok_within g.met.V.Partial.laws c.args.self.now (set_of c.args.worldview.now)
    c.strongest.result (rw (c.deref.ensures, c.self.view_is) at c.strongest.ensures.lean)

pub returns-clause-enough : goal.returns-clause-enough
returns-clause-enough g c =
    ok_says g.met.V.Partial.laws c.args.self.now (set_of c.args.worldview.now) c.strongest.result
    (rw (c.deref.ensures, c.self.view_is) at c.strongest.ensures.value)
    (rw (c.deref.ensures, c.self.view_is) at c.strongest.ensures.lean)
