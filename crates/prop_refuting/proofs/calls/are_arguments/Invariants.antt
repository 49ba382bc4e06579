use Rattle.std.proofs.Common.{length, take}
use Rattle.prop_refuting.specs.Calls.{AreArguments}
use Rattle.prop_refuting.proofs.calls.are_arguments.Given as goal

abbrev pub invariant-loop-cell : goal.invariant-loop-cell
invariant-loop-cell l =
    AreArguments l.cells.kinds (take (length l.yielded) l.inputs) (take (length l.yielded) l.args)
