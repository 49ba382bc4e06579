use Rattle.std.proofs.Common.{false}
use Rattle.prop_premises.proofs.ChoiceLemmas.{choices_of-with_belief_at}
use Rattle.prop_premises.proofs.OriginLemmas.{believed_in-kicked}
use Rattle.prop_premises.proofs.premises.Premises.kick.Goals as goal

pub invariant_of-self : goal.invariant_of-self
invariant_of-self c = rw (c.set_belief.ensures, choices_of-with_belief_at c.self.inside.table c.args.premise false)
    c.self.invariant

pub returns-clause-beliefs : goal.returns-clause-beliefs
returns-clause-beliefs c = rw (c.set_belief.ensures, ← c.self.view_is)
    (believed_in-kicked c.self.inside.table c.args.premise)
