use Rattle.std.proofs.Common.{◌∙◌, ◌++◌, ◌∷◌, [], length, ap}
use Rattle.prop_procedures.specs.Kept.{stored_of, stored_as}
use Rattle.prop_cells.proofs.Refused.{none_missing_before, refused_9, refused_12, refused_13, refused_14, refused_16}
use Rattle.prop_cells.proofs.Refused.{not_refused}
use Rattle.prop_cells.proofs.network.Network.attachment_refusal.Goals as goal

pub returns-then-is_cell_missing : goal.returns-then-is_cell_missing
returns-then-is_cell_missing g c =
    refused_9 (stored_of g.R.Rule.value_of c.args.self.now.library) c.args.procedure
    (stored_as g.R.Rule.value_of c.get-p.result.now) c.args.self.now.cells c.args.param c.args.ins.now c.args.out
    c.get-p.ensures
    c.len.result c.len.ensures.count c.if-is_cell_missing.ensures

pub returns-then-ins : goal.returns-then-ins
returns-then-ins g c =
    refused_12 (stored_of g.R.Rule.value_of c.args.self.now.library) c.args.procedure
    (stored_as g.R.Rule.value_of c.get-p.result.now) c.args.self.now.cells c.args.param c.args.ins.now c.args.out
    c.get-p.ensures
    c.len.result c.len.ensures.count c.if-is_cell_missing.ensures c.ins.result.now c.ins.ensures c.if-ins.true

pub kinds_fit-requires-clause-count : goal.kinds_fit-requires-clause-count
kinds_fit-requires-clause-count g c =
    c.if-ins.false ∙ ap length c.ins.ensures

pub kinds_fit-requires-clause-cells : goal.kinds_fit-requires-clause-cells
kinds_fit-requires-clause-cells g c =
    none_missing_before c.args.self.now.cells.kinds c.len.result (c.args.ins.now ++ c.args.out ∷ []) c.len.ensures.count
    c.if-is_cell_missing.ensures

pub returns-then-not-kinds_fit : goal.returns-then-not-kinds_fit
returns-then-not-kinds_fit g c =
    refused_13 (stored_of g.R.Rule.value_of c.args.self.now.library) c.args.procedure
    (stored_as g.R.Rule.value_of c.get-p.result.now) c.args.self.now.cells c.args.param c.args.ins.now c.args.out
    c.get-p.ensures
    c.len.result c.len.ensures.count c.if-is_cell_missing.ensures c.ins.result.now c.ins.ensures c.if-ins.false
    c.kinds_fit.result c.kinds_fit.ensures c.if-not-kinds_fit.true

pub returns-then-lacks_param : goal.returns-then-lacks_param
returns-then-lacks_param g c =
    refused_14 (stored_of g.R.Rule.value_of c.args.self.now.library) c.args.procedure
    (stored_as g.R.Rule.value_of c.get-p.result.now) c.args.self.now.cells c.args.param c.args.ins.now c.args.out
    c.get-p.ensures
    c.len.result c.len.ensures.count c.if-is_cell_missing.ensures c.ins.result.now c.ins.ensures c.if-ins.false
    c.kinds_fit.result c.kinds_fit.ensures c.if-not-kinds_fit.false c.need.result c.need.ensures c.params.result.now
    c.params.ensures c.if-lacks_param.ensures

pub returns-then-instance_count-most : goal.returns-then-instance_count-most
returns-then-instance_count-most g c =
    refused_16 (stored_of g.R.Rule.value_of c.args.self.now.library) c.args.procedure
    (stored_as g.R.Rule.value_of c.get-p.result.now) c.args.self.now.cells c.args.param c.args.ins.now c.args.out
    c.get-p.ensures
    c.len.result c.len.ensures.count c.if-is_cell_missing.ensures c.ins.result.now c.ins.ensures c.if-ins.false
    c.kinds_fit.result c.kinds_fit.ensures c.if-not-kinds_fit.false c.need.result c.need.ensures c.params.result.now
    c.params.ensures c.if-lacks_param.ensures
    c.instance_count.result c.instance_count.ensures.count (rw c.most.ensures at c.if-instance_count-most.true)

pub returns : goal.returns
returns g c =
    not_refused (stored_of g.R.Rule.value_of c.args.self.now.library) c.args.procedure
    (stored_as g.R.Rule.value_of c.get-p.result.now) c.args.self.now.cells c.args.param c.args.ins.now c.args.out
    c.get-p.ensures
    c.len.result c.len.ensures.count c.if-is_cell_missing.ensures c.ins.result.now c.ins.ensures c.if-ins.false
    c.kinds_fit.result c.kinds_fit.ensures c.if-not-kinds_fit.false c.need.result c.need.ensures c.params.result.now
    c.params.ensures c.if-lacks_param.ensures
    c.instance_count.result c.instance_count.ensures.count (rw c.most.ensures at c.if-instance_count-most.false)
