use Rattle.prop_plans.specs.Held.{attached_of}
use Rattle.prop_deriving.specs.Sidings.{AreSidings}
use Rattle.prop_deriving.proofs.sides.Sides.new.Given as goal

abbrev pub invariant-loop-statement : goal.invariant-loop-statement
invariant-loop-statement g l = AreSidings (attached_of l.network.cells) l.choices l.sides
