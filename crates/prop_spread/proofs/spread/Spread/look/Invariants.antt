use Rattle.std.proofs.Common.{◌≡◌}
use Rattle.prop_spread.proofs.spread.Spread.look.Given as goal

abbrev pub invariant-loop-n : goal.invariant-loop-n
invariant-loop-n l = l.self ≡ l.fn.self

abbrev pub invariant-loop : goal.invariant-loop
invariant-loop l = l.self ≡ l.fn.self
