use Rattle.std.proofs.Common.{◌∙◌, sym, ap, false}
use Rattle.std.specs.Option.{option_map_or}
use Rattle.prop_premises.specs.inner.Origins.{is_believed}
use Rattle.prop_premises.proofs.OriginLemmas.{believed_in-at}
use Rattle.prop_premises.proofs.premises.Premises.is_in.Goals as goal

pub returns-in-Some : goal.returns-in-Some
returns-in-Some c = rw (← c.self.view_is)
    (c.is_believed.ensures ∙ ap (λ o. option_map_or is_believed o false) c.in-Some.ensures
    ∙ sym (believed_in-at c.self.inside.table c.args.premise))

pub returns-in-None : goal.returns-in-None
returns-in-None c = rw (← c.self.view_is)
    (ap (λ o. option_map_or is_believed o false) c.in-None.ensures
    ∙ sym (believed_in-at c.self.inside.table c.args.premise))
