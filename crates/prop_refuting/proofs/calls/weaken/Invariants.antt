use Rattle.std.proofs.Common.{◌≡◌, Some, slice_get}
use Rattle.prop_procedures.specs.Kept.{stored_of}
use Rattle.prop_cells.specs.Instances.{Instance}
use Rattle.prop_refuting.specs.Calls.{Tells}
use Rattle.prop_plans.specs.Held.{attached_of}
use Rattle.prop_refuting.proofs.calls.weaken.Given as goal

abbrev pub invariant-loop-place : goal.invariant-loop-place
invariant-loop-place g l = (x : Instance) → slice_get l.network.cells.instances l.claim.instance ≡ Some x
    → Tells (stored_of g.R.Rule.value_of l.network.library) (attached_of l.network.cells) x l.initial.args l.claim.rest
    l.claim.fact
    → Tells (stored_of g.R.Rule.value_of l.network.library) (attached_of l.network.cells) x l.args l.claim.rest
    l.claim.fact
