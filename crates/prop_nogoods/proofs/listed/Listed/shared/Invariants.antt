use Rattle.std.proofs.Common.{◌≡◌, ◌++◌, ℕ}
use Rattle.prop_numbers.specs.Sets.{set_of}
use Rattle.prop_nogoods.proofs.CommonLemmas.{is_shared}
use Rattle.prop_nogoods.proofs.listed.Listed.shared.Given as goal

abbrev pub invariant-loop-premise : goal.invariant-loop-premise
invariant-loop-premise l = record {
  so_far : l.yielded ++ l.premise-iterator ≡ l.fn.self;
  shared : (p : ℕ) → set_of l.shared p ≡ is_shared l.fn.self l.fn.other l.yielded p;
}
