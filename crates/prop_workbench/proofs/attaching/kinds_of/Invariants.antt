use Rattle.std.proofs.Common.{◌≡◌, map, take}
use Rattle.prop_procedures.specs.Fitting.{kind_at}
use Rattle.prop_workbench.proofs.attaching.kinds_of.Given as goal

abbrev pub invariant-loop-cell : goal.invariant-loop-cell
invariant-loop-cell l = l.kinds.items ≡ map (kind_at l.held.kinds) (take l.cell-index l.cells)
