use Rattle.std.proofs.Common.{◌≡◌, take}
use Rattle.prop_cells.specs.Sides.{sides_at, StatesAll}
use Rattle.prop_cells.specs.inner.Sides.{statements_back}
use Rattle.prop_cells.proofs.cells.Cells.push_sides.Given as goal

abbrev pub invariant-loop-i : goal.invariant-loop-i
invariant-loop-i l = record {
  kinds : l.self.kinds ≡ l.initial.self.kinds;
  stated : StatesAll l.initial.self l.self (sides_at l.first l.cell (take l.i l.infos));
  back : statements_back l.count l.cell l.first l.self ≡ l.initial.self;
}
