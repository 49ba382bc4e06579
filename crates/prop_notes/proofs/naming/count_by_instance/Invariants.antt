use Rattle.std.proofs.Common.{◌≡◌, ◌≤◌, take}
use Rattle.prop_notes.specs.Naming.{uses_by_instance}
use Rattle.prop_notes.proofs.naming.count_by_instance.Given as goal

abbrev pub invariant-loop-made : goal.invariant-loop-made
invariant-loop-made l = record {
  counted : l.count ≡ uses_by_instance (take l.made-index l.uses) l.instance;
  few : l.count ≤ l.made-index;
}
