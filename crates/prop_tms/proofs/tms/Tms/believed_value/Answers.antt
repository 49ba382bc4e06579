use Rattle.prop_numbers.specs.Sets.{set_of}
use Rattle.prop_tms.proofs.BeliefUses.{belief_of-least}
use Rattle.prop_tms.proofs.tms.Tms.believed_value.Goals as goal

pub returns-clause-least : goal.returns-clause-least
returns-clause-least g c = rw (c.belief.ensures, c.deref.ensures, c.self.view_is)
    (belief_of-least g.met.V.Partial.laws (set_of c.args.worldview.now) c.args.self.now)
