use Rattle.std.proofs.Common.{◌≡◌, ◌++◌, false}
use Rattle.std.specs.List.{list_any}
use Rattle.prop_numbers.specs.Sets.{set_of}
use Rattle.prop_hitting.proofs.conflict.has_some.Given as goal

abbrev pub invariant-loop-premise : goal.invariant-loop-premise
invariant-loop-premise l = record {
  so_far : l.yielded ++ l.premise-iterator ≡ l.fn.other;
  none : list_any (set_of l.fn.set) l.yielded ≡ false;
}
