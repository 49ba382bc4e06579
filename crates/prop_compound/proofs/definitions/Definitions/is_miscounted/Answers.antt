use Rattle.std.proofs.Common.{◌∙◌, ◌+◌, ◌==◌, ap, length}
use Rattle.prop_procedures.specs.Kept.{stored_of}
use Rattle.prop_compound.proofs.Resolved.{procedure_wants}
use Rattle.prop_compound.proofs.definitions.Definitions.is_miscounted.Goals as goal

pub returns-in-Procedure : goal.returns-in-Procedure
returns-in-Procedure g c =
    procedure_wants (stored_of g.R.Rule.value_of c.args.library.now) c.args.self.now c.args.used c.in-Procedure.number _
    c.in-Procedure.is c.get.ensures c.args.count c.is_one_more.result
    (c.is_one_more.ensures ∙ ap (λ xs. c.args.count == length xs + 1) c.ins.ensures)
