use Rattle.std.proofs.Common.{◌≡◌, ◌≤◌, take}
use Rattle.prop_notes.specs.Naming.{uses_by_cell}
use Rattle.prop_notes.proofs.naming.count_by_cell.Given as goal

abbrev pub invariant-loop-made : goal.invariant-loop-made
invariant-loop-made l = record {
  counted : l.count ≡ uses_by_cell (take l.made-index l.uses) l.cell;
  few : l.count ≤ l.made-index;
}
