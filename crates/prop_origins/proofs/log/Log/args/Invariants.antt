use Rattle.std.proofs.Common.{◌≡◌, take, map}
use Rattle.prop_origins.specs.Parts.{made}
use Rattle.prop_origins.proofs.log.Log.args.Given as goal

abbrev pub invariant-loop-cell : goal.invariant-loop-cell
invariant-loop-cell l = l.args.items ≡ map (made l.self.parts) (take l.cell-index l.cells)
