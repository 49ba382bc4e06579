use Rattle.std.proofs.Common.{◌≡◌}
use Rattle.prop_amb.proofs.ReasonLaws.{cleared}
use Rattle.prop_amb.proofs.reasons.forget.Given as goal

abbrev pub invariant-loop-each : goal.invariant-loop-each
invariant-loop-each l = l.each-items ≡ cleared l.each-index l.fn.reasons
