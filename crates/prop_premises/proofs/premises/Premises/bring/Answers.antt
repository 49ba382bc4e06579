use Rattle.std.proofs.Common.{sym, subst, true, IsTrue}
use Rattle.prop_premises.specs.Origins.{is_user_at}
use Rattle.prop_premises.proofs.ChoiceLemmas.{choices_of-with_belief_at}
use Rattle.prop_premises.proofs.OriginLemmas.{believed_in-brought}
use Rattle.prop_premises.proofs.premises.Premises.bring.Goals as goal

pub invariant_of-self : goal.invariant_of-self
invariant_of-self c = rw (c.set_belief.ensures, choices_of-with_belief_at c.self.inside.table c.args.premise true)
    c.self.invariant

pub returns-clause-beliefs : goal.returns-clause-beliefs
returns-clause-beliefs c = rw (c.set_belief.ensures, ← c.self.view_is)
    (believed_in-brought c.self.inside.table c.args.premise
    (subst (λ os. IsTrue (is_user_at os c.args.premise)) (sym c.self.view_is) c.requires))
