use Rattle.std.proofs.Common.{◌≡◌, ◌≤◌, ◌∙◌, List, ℕ, Some, ap, length, slice_get, sym}
use Rattle.std.proofs.lemmas.Option.{same_Some}
use Rattle.prop_cells.specs.Instances.{Instance}
use Rattle.prop_plans.proofs.Planned.{few_at, room_for}
use Rattle.prop_plans.proofs.looking.is_met_of_many.Goals as goal

pub slice_bounds-room-end : goal.slice_bounds-room-end
slice_bounds-room-end g c =
    let at : slice_get c.args.network.now.cells.instances c.args.number
    ≡ Some c.instance-x.result.now =
    rw c.data.ensures at c.instance-x.ensures.at in
    rw c.inputs-count.ensures (few_at g.R.Rule.value_of c.args.network.now.library c.args.network.now.cells
    c.args.number c.instance-x.result.now c.requires.kept at)

pub slice_bounds-is_met_in-end : goal.slice_bounds-is_met_in-end
slice_bounds-is_met_in-end g c =
    let at : slice_get c.args.network.now.cells.instances c.args.number
    ≡ Some c.instance-x.result.now =
    rw c.data.ensures at c.instance-x.ensures.at in
    let few : length c.inputs-count.result.now ≤ 384 =
    rw c.inputs-count.ensures (few_at g.R.Rule.value_of c.args.network.now.library c.args.network.now.cells
    c.args.number c.instance-x.result.now c.requires.kept at) in
    sym (room_for (length c.inputs-count.result.now) _ few)

pub is_met_in-requires-clause-places : goal.is_met_in-requires-clause-places
is_met_in-requires-clause-places g c = λ y at_y.
    let at : slice_get c.args.network.now.cells.instances c.args.number
    ≡ Some c.instance-x.result.now =
    rw c.data.ensures at c.instance-x.ensures.at in
    let few : length c.inputs-count.result.now ≤ 384 =
    rw c.inputs-count.ensures (few_at g.R.Rule.value_of c.args.network.now.library c.args.network.now.cells
    c.args.number c.instance-x.result.now c.requires.kept at) in
    let same : c.instance-x.result.now ≡ y = same_Some c.instance-x.result.now y (sym at ∙ at_y) in
    let inputs : c.instance-x.result.now.inputs ≡ y.inputs = ap (λ (z : Instance). z.inputs) same in
    room_for (length c.inputs-count.result.now) _ few
    ∙ ap (λ (cells : List ℕ). length cells) (c.inputs-count.ensures ∙ inputs)
