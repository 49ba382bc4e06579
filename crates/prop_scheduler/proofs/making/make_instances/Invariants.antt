use Rattle.std.proofs.Common.{◌≡◌, ◌≤◌, ◌+◌, ◌++◌, All, drop, length, map}
use Rattle.std.specs.Vec.Iter.{into_iter_items}
use Rattle.prop_refusals.specs.Refusals.{most}
use Rattle.prop_refusals.specs.declared.refusal.Limit.TheVariants.{Instances}
use Rattle.prop_procedures.specs.Kept.{stored_of}
use Rattle.prop_cells.specs.Data.{Data, IsKept}
use Rattle.prop_cells.specs.inner.Back.{GoesBackTo}
use Rattle.prop_scheduler.specs.Making.{made_of, MayBeMade}
use Rattle.prop_scheduler.proofs.making.make_instances.Given as goal

abbrev pub invariant-loop-x : goal.invariant-loop-x
invariant-loop-x g l = record {
  can : (goal.iterator-loop-x g).can_next l.x-iterator;
  finite : (goal.iterator-loop-x g).is_finite l.x-iterator;
  same : l.network.library ≡ l.initial.network.library;
  kept : IsKept (stored_of g.R.Rule.value_of l.network.library) l.network.cells;
  rest : l.network.cells ≡ record l.initial.network.cells { instances = l.network.cells.instances };
  made : l.network.cells.instances ++ map
      (made_of (stored_of g.R.Rule.value_of l.initial.network.library)
      (drop l.base.param l.initial.network.cells.params) l.cells l.base.cell) (into_iter_items l.x-iterator)
      ≡ l.initial.network.cells.instances ++ map
      (made_of (stored_of g.R.Rule.value_of l.initial.network.library)
      (drop l.base.param l.initial.network.cells.params) l.cells l.base.cell) l.fn.instances.items;
  may : All (MayBeMade (stored_of g.R.Rule.value_of l.initial.network.library) l.initial.network.cells.kinds
      (drop l.base.param l.initial.network.cells.params) l.cells l.base.cell) (into_iter_items l.x-iterator);
  room : length l.network.cells.instances + length (into_iter_items l.x-iterator) ≤ most Instances;
  back : (before : Data) → GoesBackTo before l.initial.network.cells → GoesBackTo before l.network.cells;
}
