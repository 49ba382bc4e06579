use Rattle.std.proofs.Common.{◌≡◌, take}
use Rattle.prop_compound.specs.Expansion.{cells_at}
use Rattle.prop_compound.proofs.expanding.cells_at.Given as goal

abbrev pub invariant-loop-place : goal.invariant-loop-place
invariant-loop-place l = l.chosen.items ≡ cells_at l.cells (take l.place-index l.places)
