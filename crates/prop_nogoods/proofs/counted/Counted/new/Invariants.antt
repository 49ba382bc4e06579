use Rattle.std.proofs.Common.{◌≡◌, ◌++◌, length}
use Rattle.prop_nogoods.proofs.counted.Counted.new.Given as goal

abbrev pub invariant-loop : goal.invariant-loop
invariant-loop l = record {
  so_far : l.yielded ++ l.iterator' ≡ l.fn.premises;
  size : l.size ≡ length l.yielded;
}
