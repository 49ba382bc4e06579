use Rattle.std.proofs.Common.{◌≡◌, ◌++◌, length, take}
use Rattle.prop_refuting.specs.Calls.{literals_of}
use Rattle.prop_refuting.proofs.calls.push_parts.Given as goal

abbrev pub invariant-loop-cell : goal.invariant-loop-cell
invariant-loop-cell l = l.literals.items ≡ l.fn.literals.items
    ++ literals_of (take (length l.yielded) l.cells) (take (length l.yielded) l.args)
