use Rattle.prop_numbers.specs.Sets.{set_of}
use Rattle.std.proofs.Common.{arith}
use Rattle.std.proofs.Math.Nat.{min-le_left, min-le_right}
use Rattle.prop_amb.specs.contracts.search.Search.{the_view}
use Rattle.prop_amb.proofs.KeepingLaws.{search_after_note}
use Rattle.prop_amb.proofs.FromLaws.{none_below_noted, stand_noted}
use Rattle.prop_amb.proofs.search.Search.note.Goals as goal

pub add_new-requires : goal.add_new-requires
add_new-requires c = rw (← c.self.view_is) at c.requires

pub invariant_of-self-2 : goal.invariant_of-self-2
invariant_of-self-2 c = (
  stand_noted (the_view c.self.inside) c.add_new.new.self c.self.invariant.0 c.add_new.ensures.minimal,
  none_below_noted c.self.inside.store c.add_new.new.self (set_of c.self.inside.worldview) c.args.nogood _
      c.self.inside.from _ c.in_ok-add_new.ensures.adds
      (let few = min-le_left c.self.inside.from c.last_of.result in omega (arith, few, c.min-from.ensures))
      (let few = min-le_right c.self.inside.from c.last_of.result in omega (arith, few, c.min-from.ensures))
      c.last_of.ensures c.self.invariant.1,
  tt,
)

pub returns-clause-stand : goal.returns-clause-stand
returns-clause-stand c = (invariant_of-self-2 c).0

pub returns-clause-search : goal.returns-clause-search
returns-clause-search c problem nogood h =
    search_after_note c.add_new.result problem _ _ _ c.add_new.ensures.adds c.add_new.ensures.err
    (rw (← c.self.view_is) at nogood) (rw (← c.self.view_is) at h)
