use Rattle.std.proofs.Common.{◌≡◌, take}
use Rattle.prop_procedures.specs.Kept.{stored_of}
use Rattle.prop_cells.specs.Data.{Data, IsKept, IsWellMade}
use Rattle.prop_cells.specs.inner.Back.{GoesBackTo}
use Rattle.prop_scheduler.specs.Making.{with_fresh_cells}
use Rattle.prop_scheduler.proofs.making.make_cells.Given as goal

abbrev pub invariant-loop-kind : goal.invariant-loop-kind
invariant-loop-kind g l = record {
  same : l.network.library ≡ l.initial.network.library;
  kept : IsKept (stored_of g.R.Rule.value_of l.network.library) l.network.cells;
  made : l.network.cells ≡ with_fresh_cells l.initial.network.cells (take l.kind-index l.fresh);
  back : (before : Data) → IsWellMade before → GoesBackTo before l.initial.network.cells
      → GoesBackTo before l.network.cells;
}
