use Rattle.std.proofs.Common.{◌<◌, ◌≡◌, ◌∙◌, List, ℕ, Some, ap, length, map, slice_get, sym, subst, IsTrue}
use Rattle.std.proofs.lemmas.Option.{same_Some, slice_get_within}
use Rattle.prop_lattice.specs.declared.info.Info.TheVariants.{Nothing}
use Rattle.prop_procedures.specs.Kept.{stored_of}
use Rattle.prop_procedures.specs.Stored.{value_of}
use Rattle.prop_contents.proofs.Trimming.{read_there}
use Rattle.prop_cells.specs.Instances.{Instance, IsFitting, IsWithin, constraint_of}
use Rattle.prop_cells.specs.inner.Problems.{Meets}
use Rattle.prop_cells.proofs.Keeping.{All-at, call_fits}
use Rattle.prop_plans.specs.Plans.{value_in}
use Rattle.prop_plans.proofs.Planned.{answered}
use Rattle.prop_plans.proofs.Values.{values_clear, values_of_kinds}
use Rattle.prop_plans.proofs.looking.is_met_in.Goals as goal

pub gather-requires-clause-places : goal.gather-requires-clause-places
gather-requires-clause-places g c =
    let at : slice_get c.args.network.now.cells.instances c.args.number ≡ Some c.instance-x.result.now =
    rw c.data.ensures at c.instance-x.ensures.at in
    c.requires.places c.instance-x.result.now at ∙ ap (λ (cells : List ℕ). length cells) (sym c.inputs.ensures)

pub call-answer-requires-clause-call : goal.call-answer-requires-clause-call
call-answer-requires-clause-call g c =
    let d = c.args.network.now.cells in
    let x = c.instance-x.result.now in
    let library = stored_of g.R.Rule.value_of c.args.network.now.library in
    let values = c.args.values.now in
    let at : slice_get d.instances c.args.number ≡ Some x = rw c.data.ensures at c.instance-x.ensures.at in
    let f = All-at (IsFitting library d.kinds) d.instances c.args.number x c.requires.kept.fits at in
    let w = All-at (IsWithin (length d.kinds)) d.instances c.args.number x c.requires.kept.made.within at in
    rw (c.library.ensures, c.procedure.ensures, c.param.ensures, c.gather.ensures, c.inputs.ensures)
    (call_fits library d.kinds x (value_in values) f w (values_of_kinds d.kinds values c.requires.values)
    (values_clear d.kinds values x.inputs c.requires.values w.inputs))

pub call-answer-requires-clause-in_range : goal.call-answer-requires-clause-in_range
call-answer-requires-clause-in_range g c =
    let d = c.args.network.now.cells in
    let x = c.instance-x.result.now in
    let library = stored_of g.R.Rule.value_of c.args.network.now.library in
    let at : slice_get d.instances c.args.number ≡ Some x = rw c.data.ensures at c.instance-x.ensures.at in
    let f = All-at (IsFitting library d.kinds) d.instances c.args.number x c.requires.kept.fits at in
    rw (c.library.ensures, c.procedure.ensures) (slice_get_within library x.procedure f.procedure f.at)

pub returns : goal.returns
returns g c = λ y at_y.
    let d = c.args.network.now.cells in
    let x = c.instance-x.result.now in
    let library = stored_of g.R.Rule.value_of c.args.network.now.library in
    let values = c.args.values.now in
    let at : slice_get d.instances c.args.number ≡ Some x = rw c.data.ensures at c.instance-x.ensures.at in
    let w = All-at (IsWithin (length d.kinds)) d.instances c.args.number x c.requires.kept.made.within at in
    let same : x ≡ y = same_Some x y (sym at ∙ at_y) in
    let args : c.gather.new.args ≡ map (value_in values) x.inputs = rw c.inputs.ensures at c.gather.ensures in
    let answer : c.call-answer.result ≡ value_of library x.procedure x.param c.gather.new.args =
    rw (c.library.ensures, c.procedure.ensures, c.param.ensures) at c.call-answer.ensures in
    let within : c.output.result < length values = rw (c.output.ensures, c.requires.values.count) w.output in
    let read : c.index-values-output.result ≡ value_in values c.output.result =
    read_there values c.output.result c.index-values-output.result Nothing within c.index-values-output.is in
    let output : c.index-values-output.result ≡ value_in values x.output = rw c.output.ensures at read in
    let same_value = answered library d.kinds values x c.gather.new.args c.call-answer.result
    c.index-values-output.result c.requires.values w args answer output in
    subst (λ (z : Instance). (IsTrue c.implies.result → Meets (value_in values) (constraint_of library z))
    × (Meets (value_in values) (constraint_of library z) → IsTrue c.implies.result)) same
    (λ t. same_value.0 (c.implies.ensures.0 t), λ m. c.implies.ensures.1 (same_value.1 m))
