use Rattle.std.proofs.Common.{◌≡◌, ◌++◌, false, take}
use Rattle.std.specs.List.{flat_map}
use Rattle.prop_sets.specs.Names.{has_repeat}
use Rattle.prop_compound.proofs.Scoping.{named}
use Rattle.prop_compound.proofs.scope.push_params.Given as goal

abbrev pub invariant-loop-param : goal.invariant-loop-param
invariant-loop-param l = record {
  is : l.scope ≡ l.initial.scope ++ flat_map named (take l.param-index l.params);
  apart : has_repeat l.scope ≡ false;
}
