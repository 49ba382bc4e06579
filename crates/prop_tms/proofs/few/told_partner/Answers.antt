use Rattle.std.proofs.Common.{◌∙◌, sym}
use Rattle.prop_tms.proofs.FewLemmas.{only_entry}
use Rattle.prop_tms.proofs.few.told_partner.Goals as goal

pub returns-clause-among : goal.returns-clause-among
returns-clause-among g c =
    only_entry c.args.values.now c.in_ok-at.at c.index-values-at.result c.in_ok-support.support.now
    c.in_ok-at.ensures c.index-values-at.is (sym c.deref.ensures ∙ c.in_ok-support.ensures.0)
