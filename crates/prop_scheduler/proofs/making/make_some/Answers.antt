use Rattle.std.proofs.Common.{◌∙◌, refl}
use Rattle.prop_refusals.specs.Refusals.{most}
use Rattle.prop_refusals.specs.declared.refusal.Limit.TheVariants.{Instances}
use Rattle.prop_procedures.specs.Kept.{stored_of}
use Rattle.prop_cells.proofs.Backing.{goes_back-same}
use Rattle.prop_scheduler.proofs.Stages.{first_there, each_may, room_for, all_made}
use Rattle.prop_scheduler.proofs.making.make_some.Goals as goal

pub make_cells-made-requires-clause-kept : goal.make_cells-made-requires-clause-kept
make_cells-made-requires-clause-kept g c = c.requires.kept

pub make_cells-made-requires-clause-room : goal.make_cells-made-requires-clause-room
make_cells-made-requires-clause-room g c = rw c.deref.ensures.value c.requires.few_cells

pub returns-in-Err-clause-same : goal.returns-in-Err-clause-same
returns-in-Err-clause-same g c = c.make_cells-made.ensures.same

pub returns-in-Err-clause-kept : goal.returns-in-Err-clause-kept
returns-in-Err-clause-kept g c = c.make_cells-made.ensures.kept

pub returns-in-Err-clause-ok : goal.returns-in-Err-clause-ok
returns-in-Err-clause-ok g c = tt

pub returns-in-Err-clause-err : goal.returns-in-Err-clause-err
returns-in-Err-clause-err g c = c.in-Err.ensures.err

pub returns-in-Err-clause-back : goal.returns-in-Err-clause-back
returns-in-Err-clause-back g c = c.make_cells-made.ensures.back c.args.network.now.cells c.requires.kept.made
    (goes_back-same c.args.network.now.cells c.requires.kept.made)

pub add_params-requires : goal.add_params-requires
add_params-requires g c = record { kept = c.make_cells-made.ensures.kept }

pub returns-in-Err-add_params-clause-same : goal.returns-in-Err-add_params-clause-same
returns-in-Err-add_params-clause-same g c = c.add_params.ensures.same ∙ c.make_cells-made.ensures.same

pub returns-in-Err-add_params-clause-kept : goal.returns-in-Err-add_params-clause-kept
returns-in-Err-add_params-clause-kept g c = c.add_params.ensures.kept

pub returns-in-Err-add_params-clause-ok : goal.returns-in-Err-add_params-clause-ok
returns-in-Err-add_params-clause-ok g c = tt

pub returns-in-Err-add_params-clause-err : goal.returns-in-Err-add_params-clause-err
returns-in-Err-add_params-clause-err g c = c.in-Err-add_params.ensures.err

pub returns-in-Err-add_params-clause-back : goal.returns-in-Err-add_params-clause-back
returns-in-Err-add_params-clause-back g c =
    c.add_params.ensures.back c.args.network.now.cells
    (c.make_cells-made.ensures.back c.args.network.now.cells c.requires.kept.made
    (goes_back-same c.args.network.now.cells c.requires.kept.made))

pub make_instances-requires-clause-kept : goal.make_instances-requires-clause-kept
make_instances-requires-clause-kept g c = c.add_params.ensures.kept

pub make_instances-requires-clause-params : goal.make_instances-requires-clause-params
make_instances-requires-clause-params g c =
    first_there (stored_of g.R.Rule.value_of c.args.network.now.library)
    (stored_of g.R.Rule.value_of c.add_params.new.network.library) c.args.network.now.cells
    c.make_cells-made.new.network.cells c.add_params.new.network.cells c.args.cells.now c.args.base.cell
    c.args.base.param
    c.args.flat c.deref.result.now c.args.flat.instances.items
    (λ i. stored_of g.R.Rule.value_of ((c.add_params.ensures.same ∙ c.make_cells-made.ensures.same) i))
    c.requires.cell c.requires.param c.deref.ensures.value refl
    c.in_default.ensures.ok c.in_default-add_params.ensures.ok

pub make_instances-requires-clause-may : goal.make_instances-requires-clause-may
make_instances-requires-clause-may g c =
    each_may (stored_of g.R.Rule.value_of c.args.network.now.library)
    (stored_of g.R.Rule.value_of c.add_params.new.network.library) c.args.network.now.cells
    c.make_cells-made.new.network.cells c.add_params.new.network.cells c.args.cells.now c.args.base.cell
    c.args.base.param
    c.args.flat c.deref.result.now c.args.flat.instances.items
    (λ i. stored_of g.R.Rule.value_of ((c.add_params.ensures.same ∙ c.make_cells-made.ensures.same) i))
    c.requires.cell c.requires.param c.deref.ensures.value refl
    c.in_default.ensures.ok c.in_default-add_params.ensures.ok c.requires.may

pub make_instances-requires-clause-room : goal.make_instances-requires-clause-room
make_instances-requires-clause-room g c =
    room_for (stored_of g.R.Rule.value_of c.args.network.now.library)
    (stored_of g.R.Rule.value_of c.add_params.new.network.library) c.args.network.now.cells
    c.make_cells-made.new.network.cells c.add_params.new.network.cells c.args.cells.now c.args.base.cell
    c.args.base.param
    c.args.flat c.deref.result.now c.args.flat.instances.items
    (λ i. stored_of g.R.Rule.value_of ((c.add_params.ensures.same ∙ c.make_cells-made.ensures.same) i))
    c.requires.cell c.requires.param c.deref.ensures.value refl
    c.in_default.ensures.ok c.in_default-add_params.ensures.ok (most Instances) c.requires.few_instances

pub returns-clause-same : goal.returns-clause-same
returns-clause-same g c = c.make_instances.ensures.same ∙ c.add_params.ensures.same
    ∙ c.make_cells-made.ensures.same

pub returns-clause-kept : goal.returns-clause-kept
returns-clause-kept g c = c.make_instances.ensures.kept

pub returns-clause-ok : goal.returns-clause-ok
returns-clause-ok g c =
    all_made (stored_of g.R.Rule.value_of c.args.network.now.library)
    (stored_of g.R.Rule.value_of c.add_params.new.network.library) c.args.network.now.cells
    c.make_cells-made.new.network.cells c.add_params.new.network.cells c.args.cells.now c.args.base.cell
    c.args.base.param
    c.args.flat c.deref.result.now c.args.flat.instances.items
    (λ i. stored_of g.R.Rule.value_of ((c.add_params.ensures.same ∙ c.make_cells-made.ensures.same) i))
    c.requires.cell c.requires.param c.deref.ensures.value refl
    c.in_default.ensures.ok c.in_default-add_params.ensures.ok c.make_instances.result
    c.make_instances.new.network.cells c.make_instances.ensures.ok

pub returns-clause-err : goal.returns-clause-err
returns-clause-err g c = c.make_instances.ensures.err

pub returns-clause-back : goal.returns-clause-back
returns-clause-back g c = c.make_instances.ensures.back c.args.network.now.cells
    (c.add_params.ensures.back c.args.network.now.cells
    (c.make_cells-made.ensures.back c.args.network.now.cells c.requires.kept.made
    (goes_back-same c.args.network.now.cells c.requires.kept.made)))
