use Rattle.std.proofs.Common.{◌∙◌, sym}
use Rattle.prop_cells.proofs.Refused.{missing_last}
use Rattle.prop_cells.proofs.attaching.is_cell_missing.Goals as goal

pub returns-else-has_missing : goal.returns-else-has_missing
returns-else-has_missing c = missing_last c.args.count c.args.ins.now c.args.out
    (sym c.has_missing.ensures ∙ c.if-has_missing.false)
