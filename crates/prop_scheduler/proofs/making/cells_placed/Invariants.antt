use Rattle.std.proofs.Common.{◌≡◌, ◌++◌, map, take, drop}
use Rattle.prop_procedures.specs.Flats.{cell_placed}
use Rattle.prop_scheduler.proofs.making.cells_placed.Given as goal

abbrev pub invariant-loop-i : goal.invariant-loop-i
invariant-loop-i l =
    l.places.items ≡ map (cell_placed l.cells l.next) (take l.i l.fn.places.items) ++ drop l.i l.fn.places.items
