use Rattle.std.proofs.Common.{take, All}
use Rattle.prop_tms.specs.inner.Gains.{gained_of}
use Rattle.prop_tms.proofs.strongest.alone.Given as goal

abbrev pub invariant-loop-gain : goal.invariant-loop-gain
invariant-loop-gain g l = All (λ e. ¬ (g.V.Partial.below l.value e.value)) (take l.gain-index (gained_of l.gains))
