use Rattle.std.proofs.Common.{◌≡◌, ◌++◌, ◌⊎◌, [], IsTrue}
use Rattle.prop_numbers.specs.Sets.{set_of}
use Rattle.prop_amb.proofs.search.last_of.Given as goal

abbrev pub invariant-loop-premise : goal.invariant-loop-premise
invariant-loop-premise l = record {
  so_far : l.yielded ++ l.premise-iterator ≡ l.fn.set;
  last : IsTrue (set_of l.fn.set l.last) ⊎ (l.yielded ≡ []);
}
