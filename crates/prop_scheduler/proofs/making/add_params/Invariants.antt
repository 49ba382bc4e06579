use Rattle.std.proofs.Common.{◌≡◌, ◌++◌}
use Rattle.prop_procedures.specs.Kept.{stored_of}
use Rattle.prop_cells.specs.Data.{Data, IsKept}
use Rattle.prop_cells.specs.inner.Back.{GoesBackTo}
use Rattle.std.specs.Vec.Iter.{into_iter_items}
use Rattle.prop_scheduler.proofs.making.add_params.Given as goal

abbrev pub invariant-loop-param : goal.invariant-loop-param
invariant-loop-param g l = record {
  can : (goal.iterator-loop-param g).can_next l.param-iterator;
  finite : (goal.iterator-loop-param g).is_finite l.param-iterator;
  same : l.network.library ≡ l.initial.network.library;
  kept : IsKept (stored_of g.R.Rule.value_of l.network.library) l.network.cells;
  rest : l.network.cells ≡ record l.initial.network.cells { params = l.network.cells.params };
  made : l.network.cells.params ++ into_iter_items
      l.param-iterator ≡ l.initial.network.cells.params ++ l.fn.params.items;
  back : (before : Data) → GoesBackTo before l.initial.network.cells → GoesBackTo before l.network.cells;
}
