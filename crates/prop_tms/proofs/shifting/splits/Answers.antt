use Rattle.std.proofs.Common.{◌∙◌, sym}
use Rattle.prop_numbers.specs.Sets.{set_of}
use Rattle.prop_numbers.specs.Changes.{may_change}
use Rattle.prop_tms.proofs.ShiftLemmas.{not_in_one}
use Rattle.prop_tms.proofs.shifting.splits.Goals as goal

pub returns-else-meets : goal.returns-else-meets
returns-else-meets c =
    let shift = c.args.shift.now in
    c.if-meets.false
    ∙ sym (not_in_one (set_of shift.before.now) (set_of shift.after.now) (may_change shift.change)
    c.args.support.now shift.covers (c.meets.ensures c.if-meets.false))
