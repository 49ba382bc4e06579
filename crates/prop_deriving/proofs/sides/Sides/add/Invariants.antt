use Rattle.prop_plans.specs.Held.{attached_of}
use Rattle.prop_deriving.specs.Sidings.{AreSidings}
use Rattle.prop_deriving.proofs.sides.Sides.add.Given as goal

abbrev pub invariant-loop-number : goal.invariant-loop-number
invariant-loop-number l =
    AreSidings (attached_of l.cells) l.choices l.fn.self → AreSidings (attached_of l.cells) l.choices l.self
