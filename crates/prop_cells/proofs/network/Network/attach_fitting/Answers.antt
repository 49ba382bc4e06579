use Rattle.prop_procedures.specs.Kept.{stored_of, stored_as}
use Rattle.prop_cells.specs.Instances.{attached}
use Rattle.prop_cells.proofs.Keeping.{kept_attached}
use Rattle.prop_cells.proofs.Refused.{takes_one, fitting_made, as_attached}
use Rattle.prop_cells.proofs.network.Network.attach_fitting.Goals as goal

pub param_in-requires : goal.param_in-requires
param_in-requires g c =
    takes_one (stored_of g.R.Rule.value_of c.args.self.now.library) c.args.procedure
    (stored_as g.R.Rule.value_of c.get.result.now) c.args.self.now.cells c.args.param c.args.inputs.items c.args.out
    c.get.ensures c.requires.fits
    c.need-need.result c.need-need.ensures c.params.result.now c.params.ensures

pub push_instance-requires : goal.push_instance-requires
push_instance-requires g c =
    let made =
    fitting_made (stored_of g.R.Rule.value_of c.args.self.now.library) c.args.procedure
    (stored_as g.R.Rule.value_of c.get.result.now) c.args.self.now.cells c.args.param c.args.inputs.items c.args.out
    c.get.ensures c.requires.fits
    c.need-need.result c.need-need.ensures c.params.result.now c.params.ensures c.in_ok-param.param
    c.in_ok-param.ensures c.new-x.result c.new-x.ensures in
    made.1

pub returns-clause-kept : goal.returns-clause-kept
returns-clause-kept g c =
    let made =
    fitting_made (stored_of g.R.Rule.value_of c.args.self.now.library) c.args.procedure
    (stored_as g.R.Rule.value_of c.get.result.now) c.args.self.now.cells c.args.param c.args.inputs.items c.args.out
    c.get.ensures c.requires.fits
    c.need-need.result c.need-need.ensures c.params.result.now c.params.ensures c.in_ok-param.param
    c.in_ok-param.ensures c.new-x.result c.new-x.ensures in
    rw c.in_ok-push_instance.ensures.ok
    (kept_attached (stored_of g.R.Rule.value_of c.args.self.now.library) c.args.self.now.cells c.new-x.result
    c.requires.kept made.1 made.0)

pub returns-clause-ok : goal.returns-clause-ok
returns-clause-ok g c =
    let made =
    fitting_made (stored_of g.R.Rule.value_of c.args.self.now.library) c.args.procedure
    (stored_as g.R.Rule.value_of c.get.result.now) c.args.self.now.cells c.args.param c.args.inputs.items c.args.out
    c.get.ensures c.requires.fits
    c.need-need.result c.need-need.ensures c.params.result.now c.params.ensures c.in_ok-param.param
    c.in_ok-param.ensures c.new-x.result c.new-x.ensures in
    as_attached c.args.self.now.cells c.push_instance.new.self c.new-x.result
    (attached (stored_of g.R.Rule.value_of c.args.self.now.library) c.args.self.now.cells.params c.args.procedure
    c.args.param c.args.inputs.items c.args.out) c.in_ok-push_instance.ensures.ok made.2
