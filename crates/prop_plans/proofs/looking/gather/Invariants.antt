use Rattle.std.proofs.Common.{◌≡◌, length, take, map}
use Rattle.prop_plans.specs.Plans.{value_in}
use Rattle.prop_plans.proofs.looking.gather.Given as goal

abbrev pub invariant-loop-i : goal.invariant-loop-i
invariant-loop-i l = record {
  places : length l.args ≡ length l.cells;
  args : take l.i l.args ≡ map (value_in l.values) (take l.i l.cells);
}
