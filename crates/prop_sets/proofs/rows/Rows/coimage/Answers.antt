use Rattle.std.proofs.Common.{◌∙◌}
use Rattle.prop_sets.specs.laws.ImageLaws.{coimage_just}
use Rattle.prop_sets.proofs.ImageLemmas.{coimage_from_union}
use Rattle.prop_sets.proofs.rows.Rows.coimage.Goals as goal

pub returns-clause-value : goal.returns-clause-value
returns-clause-value c =
    let inside = c.self.inside in
    let union = rw (c.deref.ensures.value, c.bits.ensures) at c.union_of.ensures in
    rw (← c.self.view_is) (c.from_bits.ensures
    ∙ coimage_from_union (record { from = inside.from; to = inside.to; rows = inside.rows.items })
    inside.columns.items c.args.y c.union_of.result c.self.invariant union)

pub returns-clause-pairs : goal.returns-clause-pairs
returns-clause-pairs c = rw (returns-clause-value c) (coimage_just c.args.self.now c.args.y)
