use Rattle.std.proofs.Common.{◌≡◌, map, take}
use Rattle.prop_meaning.proofs.posting.kinds_of.Given as goal

abbrev pub invariant-loop-cell : goal.invariant-loop-cell
invariant-loop-cell l = l.kinds.items ≡ map (λ m. m.known.kinded) (take l.cell-index l.made)
