use Rattle.std.proofs.Common.{◌≡◌, ◌≤◌, ◌++◌, ◌*◌, length}
use Rattle.prop_hitting.specs.Costs.{cost}
use Rattle.prop_hitting.proofs.price.cost.Given as goal

abbrev pub invariant-loop-premise : goal.invariant-loop-premise
invariant-loop-premise l = record {
  so_far : l.yielded ++ l.premise-iterator ≡ l.fn.set;
  sum : l.total ≡ cost l.weights l.yielded;
  few : l.total ≤ length l.yielded * 4_294_967_295;
}
