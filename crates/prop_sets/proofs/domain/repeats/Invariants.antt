use Rattle.std.proofs.Common.{◌≡◌, false, take}
use Rattle.prop_sets.specs.Names.{texts_of, has_repeat}
use Rattle.prop_sets.proofs.domain.repeats.Given as goal

abbrev pub invariant-loop-name : goal.invariant-loop-name
invariant-loop-name l = record {
  kept : l.before.keys ≡ take l.name-index l.names;
  apart : has_repeat (take l.name-index (texts_of l.names)) ≡ false;
}
