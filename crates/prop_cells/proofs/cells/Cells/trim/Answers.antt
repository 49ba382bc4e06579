use Rattle.std.proofs.Common.{◌<◌, [], length, subst, arith}
use Rattle.prop_numbers.specs.Sets.{set_of}
use Rattle.prop_contents.specs.Changes.{TrimsAt}
use Rattle.prop_contents.proofs.Trimming.{read_there}
use Rattle.prop_cells.specs.Data.{Data, told_of}
use Rattle.prop_cells.proofs.Telling.{stored_trim, told_part, trims_told}
use Rattle.prop_cells.proofs.cells.Cells.trim.Goals as goal

pub invariant_of-self : goal.invariant_of-self
invariant_of-self c =
    let n = c.self.inside in
    let within : c.args.cell < length n.kinds.items = rw (← c.self.view_is) at c.requires in
    let count = c.self.invariant.told.count in
    let told = read_there n.told.items c.args.cell c.index.result.now [] (omega (arith, within, count)) c.index.ensures
    in
    stored_trim _ c.trim.new.self n.told.items (set_of c.args.worldview.now) _ c.args.cell
    c.trim.ensures.trims (rw told at c.trim.ensures.kept) _ _ c.self.invariant

pub returns-clause-trims : goal.returns-clause-trims
returns-clause-trims c =
    let n = c.self.inside in
    let within : c.args.cell < length n.kinds.items = rw (← c.self.view_is) at c.requires in
    let count = c.self.invariant.told.count in
    let told = read_there n.told.items c.args.cell c.index.result.now [] (omega (arith, within, count)) c.index.ensures
    in
    subst (λ (d : Data). TrimsAt (set_of c.args.worldview.now) (told_of d.statements c.args.cell) d.contents
    c.trim.new.self c.args.cell) c.self.view_is
    (trims_told (set_of c.args.worldview.now) _ _ _ _ c.args.cell
    (told_part _ n.told.items c.args.cell c.self.invariant.told) (rw told at c.trim.ensures.trims))

pub returns-clause-made : goal.returns-clause-made
returns-clause-made c = (invariant_of-self c).made
