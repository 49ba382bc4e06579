use Rattle.std.proofs.Common.{drop}
use Rattle.prop_compound.proofs.Scoping.{IsSeen}
use Rattle.prop_compound.proofs.scope.is_cell_missing.Given as goal

abbrev pub invariant-loop-step : goal.invariant-loop-step
invariant-loop-step l = IsSeen l.scope l.params l.seen l.steps (drop l.step-index l.steps)
