use Rattle.std.proofs.Common.{◌∙◌, sym}
use Rattle.prop_tms.proofs.FewLemmas.{only_entry, only_item}
use Rattle.prop_tms.proofs.few.free_partner.Goals as goal

pub returns-in-loop-valued-clause-among : goal.returns-in-loop-valued-clause-among
returns-in-loop-valued-clause-among g c =
    only_entry c.args.values.now c.loop-valued.valued-index c.valued-item.result c.only-item.result
    c.loop-valued-test.true c.valued-item.is
    (sym c.as_slice.ensures ∙ only_item c.as_slice.result.now c.only-item.result c.in-len1.len_at_least
    c.in-len1.len_below c.only-item.is)
