use Rattle.std.proofs.Common.{◌≡◌, ◌++◌}
use Rattle.prop_numbers.specs.Sets.{set_of, IsPart}
use Rattle.prop_premises.specs.Origins.{believed_in}
use Rattle.prop_conflicts.proofs.again.are_believed.Given as goal

abbrev pub invariant-loop-premise : goal.invariant-loop-premise
invariant-loop-premise l = record {
  so_far : l.yielded ++ l.premise-iterator ≡ l.fn.set;
  part : IsPart (set_of l.yielded) (believed_in l.fn.premises);
}
