use Rattle.std.proofs.Common.{◌≡◌, length}
use Rattle.prop_procedures.specs.Kept.{stored_of}
use Rattle.prop_cells.specs.Data.{problem_of}
use Rattle.prop_origins.specs.Parts.{made}
use Rattle.prop_origins.specs.inner.Proceeding.{Proceeds}
use Rattle.prop_origins.proofs.making.proceed.Given as goal

abbrev pub invariant-loop-number : goal.invariant-loop-number
invariant-loop-number g l = record {
  log : l.log ≡ l.fn.log;
  line : l.line.count ≡ l.fn.line.count;
  proceeds : Proceeds (problem_of (stored_of g.R.Rule.value_of l.network.library) l.network.cells) 0
      l.fn.line.line l.line.line (made l.fn.log.parts) (made l.fn.log.parts);
}

abbrev pub decreases-loop-number : goal.decreases-loop-number
decreases-loop-number g l = length l.line.line
