use Rattle.std.proofs.Common.{◌≤◌, ℕ, List, take}
use Rattle.std.specs.List.Sorted.{IsStrictlyIncreasing}
use Rattle.prop_numbers.specs.Sets.{set_of}
use Rattle.prop_hitting.specs.Costs.{cost}
use Rattle.prop_hitting.specs.inner.Nodes.{IsOneOf}
use Rattle.prop_hitting.proofs.frontier.Frontier.floor.Given as goal

abbrev pub invariant-loop-node : goal.invariant-loop-node
invariant-loop-node l = (out : List ℕ) → IsStrictlyIncreasing out
    → IsOneOf (set_of out) (take l.node-index l.self.nodes.items) → l.least ≤ cost l.weights out
