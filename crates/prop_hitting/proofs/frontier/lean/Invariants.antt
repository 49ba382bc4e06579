use Rattle.std.proofs.Common.{◌≡◌, ◌++◌}
use Rattle.prop_numbers.specs.Sets.{set_of, IsPart}
use Rattle.prop_hitting.specs.Hitting.{HitsAll}
use Rattle.prop_hitting.proofs.HittingLemmas.{AreNeeded}
use Rattle.prop_hitting.proofs.frontier.lean.Given as goal

abbrev pub invariant-loop-premise : goal.invariant-loop-premise
invariant-loop-premise l = record {
  so_far : l.yielded ++ l.premise-iterator ≡ l.fn.set;
  hits : HitsAll (set_of l.kept) l.fn.conflicts;
  part : IsPart (set_of l.kept) (set_of l.fn.set);
  needed : AreNeeded l.fn.conflicts l.yielded l.kept;
}
