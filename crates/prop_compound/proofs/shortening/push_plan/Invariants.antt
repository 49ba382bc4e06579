use Rattle.std.proofs.Common.{◌≡◌, take}
use Rattle.std.specs.List.{flat_map}
use Rattle.prop_compound.specs.inner.Shortcuts.{shortened}
use Rattle.prop_compound.proofs.shortening.push_plan.Given as goal

abbrev pub invariant-loop-step : goal.invariant-loop-step
invariant-loop-step l = l.plan.items ≡ flat_map (shortened l.definitions) (take l.step-index l.steps)
