use Rattle.std.proofs.Common.{◌≡◌, ◌++◌, IsTrue, IfSome}
use Rattle.prop_numbers.specs.Sets.{set_of, is_below}
use Rattle.prop_nogoods.specs.inner.Endings.{end_of}
use Rattle.prop_nogoods.proofs.listed.Listed.last.Given as goal

abbrev pub invariant-loop-premise : goal.invariant-loop-premise
invariant-loop-premise l = record {
  so_far : l.yielded ++ l.premise-iterator ≡ l.fn.self;
  last : IfSome l.last (λ p. IsTrue (set_of l.fn.self p));
  below : IsTrue (is_below (end_of l.last) l.yielded);
}
