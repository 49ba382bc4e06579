use Rattle.std.proofs.Common.{◌≡◌}
use Rattle.prop_spread.proofs.spread.Spread.rule_out_by.Given as goal

abbrev pub invariant-loop-place : goal.invariant-loop-place
invariant-loop-place g l = l.self ≡ l.fn.self
