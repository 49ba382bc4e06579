use Rattle.std.proofs.Common.{◌≡◌, ◌≤◌, ◌-◌}
use Rattle.prop_cells.specs.Problems.{Problem}
use Rattle.prop_amb.specs.Going.{Passes}
use Rattle.prop_amb.specs.Search.{IsSearch}
use Rattle.prop_amb.proofs.settling.pass.Given as goal

abbrev pub invariant-loop-moves : goal.invariant-loop-moves
invariant-loop-moves l = record {
  premises : l.search.premises ≡ l.fn.search.premises;
  listed : l.search.listed ≡ l.fn.search.listed;
  search : (problem : Problem) → IsSearch problem l.fn.search → IsSearch problem l.search;
  few : l.moves ≤ l.most;
  moves : Passes l.fn.search l.moves l.search;
}

abbrev pub decreases-loop-moves : goal.decreases-loop-moves
decreases-loop-moves l = l.most - l.moves
