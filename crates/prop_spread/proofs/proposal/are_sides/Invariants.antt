use Rattle.std.proofs.Common.{take}
use Rattle.std.specs.List.{AllZip}
use Rattle.prop_premises.specs.ChoiceLists.{IsSide}
use Rattle.prop_spread.proofs.proposal.are_sides.Given as goal

abbrev pub invariant-loop-place : goal.invariant-loop-place
invariant-loop-place l = AllZip IsSide (take l.place l.choices) (take l.place l.sides)
