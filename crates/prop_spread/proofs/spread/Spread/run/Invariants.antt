use Rattle.std.proofs.Common.{◌≡◌}
use Rattle.prop_spread.proofs.spread.Spread.run.Given as goal

abbrev pub invariant-loop : goal.invariant-loop
invariant-loop g l = l.self ≡ l.fn.self
