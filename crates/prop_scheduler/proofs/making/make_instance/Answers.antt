use Rattle.std.proofs.Common.{◌<◌, ◌+◌, ◌-◌, ◌^◌, Some, length, refl}
use Rattle.std.proofs.lemmas.List.Elements.{All-pop}
use Rattle.std.proofs.lemmas.Option.{slice_get_within}
use Rattle.prop_procedures.specs.Flats.{cells_of}
use Rattle.prop_procedures.specs.Kept.{stored_of}
use Rattle.prop_scheduler.proofs.Placing.{made_ok, made_fits}
use Rattle.prop_scheduler.proofs.making.make_instance.Goals as goal

pub returns-clause-ok : goal.returns-clause-ok
returns-clause-ok g c =
    made_ok (stored_of g.R.Rule.value_of c.args.network.now.library) c.args.network.now.cells c.args.cells.now
    c.args.base.cell c.args.base.param c.args.x c.requires.may
    c.args.x.inputs.items c.cells_placed-inputs.result.items c.cell_placed-output.result refl
    c.cells_placed-inputs.ensures c.cell_placed-output.ensures
    c.data.result.now c.params.result.now c.param_number-param.result c.data.ensures c.params.ensures
    c.param_number-param.ensures c.attach_fitting.result c.attach_fitting.new.self.cells c.attach_fitting.ensures.ok

pub returns-clause-err : goal.returns-clause-err
returns-clause-err g c = c.attach_fitting.ensures.err

pub attach_fitting-requires-clause-fits : goal.attach_fitting-requires-clause-fits
attach_fitting-requires-clause-fits g c =
    made_fits (stored_of g.R.Rule.value_of c.args.network.now.library) c.args.network.now.cells c.args.cells.now
    c.args.base.cell c.args.base.param c.args.x c.requires.may
    c.args.x.inputs.items c.cells_placed-inputs.result.items c.cell_placed-output.result refl
    c.cells_placed-inputs.ensures c.cell_placed-output.ensures
    c.data.result.now c.params.result.now c.param_number-param.result c.data.ensures c.params.ensures
    c.param_number-param.ensures c.requires.room

pub cells_placed-inputs-requires : goal.cells_placed-inputs-requires
cells_placed-inputs-requires g c =
    let x = c.args.x in
    (All-pop (λ place. c.args.base.cell + (place - length c.args.cells.now) < 2 ^ 64) (cells_of x) x.inputs.items
    (Some x.output) refl c.requires.may.small).0

pub cell_placed-output-requires : goal.cell_placed-output-requires
cell_placed-output-requires g c =
    let x = c.args.x in
    (All-pop (λ place. c.args.base.cell + (place - length c.args.cells.now) < 2 ^ 64) (cells_of x) x.inputs.items
    (Some x.output) refl c.requires.may.small).1

pub param_number-param-requires : goal.param_number-param-requires
param_number-param-requires g c = rw (c.params.ensures, c.data.ensures) c.requires.params

pub attach_fitting-requires-clause-procedure : goal.attach_fitting-requires-clause-procedure
attach_fitting-requires-clause-procedure g c =
    slice_get_within (stored_of g.R.Rule.value_of c.args.network.now.library) c.args.x.procedure
    c.requires.may.procedure c.requires.may.at

pub attach_fitting-requires-clause-kept : goal.attach_fitting-requires-clause-kept
attach_fitting-requires-clause-kept g c = c.requires.kept

pub returns-clause-same : goal.returns-clause-same
returns-clause-same g c = c.attach_fitting.ensures.same

pub returns-clause-kept : goal.returns-clause-kept
returns-clause-kept g c = c.attach_fitting.ensures.kept

pub returns-clause-err_same : goal.returns-clause-err_same
returns-clause-err_same g c = c.attach_fitting.ensures.err_same
