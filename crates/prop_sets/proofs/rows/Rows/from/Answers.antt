use Rattle.prop_sets.proofs.RelationLemmas.{whole_from_tied}
use Rattle.prop_sets.proofs.rows.Rows.from.Goals as goal

pub returns-clause-whole : goal.returns-clause-whole
returns-clause-whole c =
    let inside = c.self.inside in
    rw (← c.self.view_is) (whole_from_tied (record { from = inside.from; to = inside.to; rows = inside.rows.items })
    inside.columns.items c.self.invariant)
