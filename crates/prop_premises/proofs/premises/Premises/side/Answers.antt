use Rattle.std.proofs.Common.{◌∙◌, sym, ap, None}
use Rattle.std.specs.Option.{option_map_or}
use Rattle.prop_premises.specs.Origins.{side_of}
use Rattle.prop_premises.proofs.OriginLemmas.{side_at-at}
use Rattle.prop_premises.proofs.premises.Premises.side.Goals as goal

pub returns : goal.returns
returns c = rw (← c.self.view_is) (c.side.ensures ∙ ap (λ o. option_map_or side_of o None) c.in_ok-source.ensures
    ∙ sym (side_at-at c.self.inside.table c.args.premise))
