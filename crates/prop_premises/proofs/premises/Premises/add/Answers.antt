use Rattle.std.proofs.Common.{◌∙◌, sym, ap, true}
use Rattle.prop_premises.specs.Origins.{choices_of}
use Rattle.prop_premises.proofs.ChoiceLemmas.{choices_of-user}
use Rattle.prop_premises.proofs.OriginLemmas.{is_user_at-push}
use Rattle.prop_premises.proofs.premises.Premises.add.Goals as goal

pub invariant_of-self-2 : goal.invariant_of-self-2
invariant_of-self-2 c =
    c.self.invariant ∙ sym (ap choices_of c.in_ok-add.ensures.ok
    ∙ choices_of-user c.self.inside.table c.args.name.now true)

pub returns-clause-user : goal.returns-clause-user
returns-clause-user c =
    rw c.in_ok-add.ensures.ok (is_user_at-push c.self.inside.table c.args.name.now true c.len-number.result
    c.len-number.ensures.len)
