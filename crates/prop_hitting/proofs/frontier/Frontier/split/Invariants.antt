use Rattle.std.proofs.Common.{◌≡◌, ◌++◌}
use Rattle.prop_hitting.proofs.NodeLemmas.{Splits}
use Rattle.prop_hitting.proofs.frontier.Frontier.split.Given as goal

abbrev pub invariant-loop-premise : goal.invariant-loop-premise
invariant-loop-premise l = record {
  so_far : l.yielded ++ l.premise-iterator ≡ l.fn.conflict;
  splits : Splits l.fn.node l.rest l.yielded l.initial.self.nodes.items l.self.nodes.items;
}
