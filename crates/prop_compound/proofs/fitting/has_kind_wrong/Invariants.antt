use Rattle.std.proofs.Common.{◌≡◌, false, take}
use Rattle.std.specs.List.{list_any}
use Rattle.prop_procedures.specs.Kept.{stored_of}
use Rattle.prop_compound.specs.Expanding.{is_kind_wrong}
use Rattle.prop_compound.specs.Flattened.{placed_of}
use Rattle.prop_compound.proofs.fitting.has_kind_wrong.Given as goal

abbrev pub invariant-loop-instance : goal.invariant-loop-instance
invariant-loop-instance g l =
    list_any (λ x. is_kind_wrong (stored_of g.R.Rule.value_of l.library) l.kinds (placed_of l.params x))
    (take l.instance-index l.instances) ≡ false
