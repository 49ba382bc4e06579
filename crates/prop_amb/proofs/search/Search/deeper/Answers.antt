use Rattle.std.proofs.Common.{◌<◌, length}
use Rattle.prop_amb.specs.contracts.search.Search.{the_view}
use Rattle.prop_amb.specs.Search.{choices_in}
use Rattle.prop_amb.proofs.AheadLaws.{stand_next}
use Rattle.prop_amb.proofs.FromLaws.{none_below_deeper}
use Rattle.prop_amb.proofs.search.Search.deeper.Goals as goal
use Rattle.std.proofs.Common.{refl}

pub returns-clause-stand : goal.returns-clause-stand
returns-clause-stand c =
    let below : c.self.inside.level < length c.self.inside.list.items = rw (← c.self.view_is) at c.requires.left in
    rw (← c.self.view_is) (stand_next (the_view c.self.inside) (choices_in (the_view c.self.inside))
    (record { first = 0; sides = 0 }) 0 c.side_at-side.result c.in_ok-deeper.deeper c.self.invariant.0 refl below
    c.side_at-side.ensures.side c.in_ok-deeper.ensures)

pub returns-clause-from : goal.returns-clause-from
returns-clause-from c = rw (← c.self.view_is) (none_below_deeper c.self.inside.store c.self.inside.worldview
    c.in_ok-deeper.deeper _ (rw (← c.self.view_is) at c.requires.unblocked) c.in_ok-deeper.ensures)
