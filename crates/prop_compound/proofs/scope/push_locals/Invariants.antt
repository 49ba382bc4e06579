use Rattle.std.proofs.Common.{◌≡◌, ◌++◌, false, take}
use Rattle.std.specs.List.{flat_map}
use Rattle.prop_sets.specs.Names.{has_repeat}
use Rattle.prop_compound.proofs.Scoping.{locals_said}
use Rattle.prop_compound.proofs.scope.push_locals.Given as goal

abbrev pub invariant-loop-step : goal.invariant-loop-step
invariant-loop-step l = record {
  is : l.scope ≡ l.initial.scope ++ flat_map locals_said (take l.step-index l.steps);
  apart : has_repeat l.scope ≡ false;
}
